-- What lies in memory that is filled read by read. Assumes nothing.
use Rattle.std.proofs.Common.{◌≡◌, ℕ, ◌+◌, ◌≤◌, List, ◌++◌, length, take, Option, sym, ap, subst, ◌∙◌, arith}
use Rattle.std.proofs.lemmas.List.{length-take-le, length-append, take-append-le}
use Rattle.std.proofs.Math.Seq.{take-append-add}
use Rattle.std.proofs.KnownBytes.{Consumes-trans}
use Rattle.std.specs.Io.KnownBytes.{Consumes}

-- The memory xs is filled up to `used` with what a reader lost from a to b. Then it loses n bytes more, to c, which come
-- into the part behind.
pub filled_more : (a b c : Option (List ℕ)) (xs part rest : List ℕ) (used n : ℕ) → used ≤ length xs → n ≤ length part → Consumes a b (take used xs) → Consumes b c (take n part)
    → (used + n ≤ length (take used xs ++ (part ++ rest))) × Consumes a c (take (used + n) (take used xs ++ (part ++ rest)))
filled_more a b c xs part rest used n within fits before read =
    let front : length (take used xs) ≡ used = length-take-le used xs within in
    let long : length (take used xs ++ (part ++ rest)) ≡ used + (length part + length rest) = length-append (take used xs) (part ++ rest) ∙ (λ j. front j + length-append part rest j) in
    let all : take (used + n) (take used xs ++ (part ++ rest)) ≡ take used xs ++ take n part =
    ap (λ k. take (k + n) (take used xs ++ (part ++ rest))) (sym front) ∙ take-append-add (take used xs) (part ++ rest) n ∙ ap (λ l. take used xs ++ l) (take-append-le n part rest fits) in
    (omega (arith, long, fits), subst (Consumes a c) (sym all) (Consumes-trans a b c _ _ before read))
