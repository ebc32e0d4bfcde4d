-- The first records of a slice, as one is written, and those behind them. Assumes nothing.
use Rattle.std.proofs.Common.{◌≡◌, ℕ, suc, ◌+◌, ◌-◌, ◌<◌, ◌≤◌, true, List, [], ◌∷◌, ◌++◌, length, take, drop, set, replicate, sym, ap, ◌∙◌, arith, length-set, take-append-drop, length-take-le, drop-drop, drop-set-lt, lt-ltb, Some, None, if◌then◌else◌}
use lib.ListN.{replicate-append-replicate}
use lib.Seq.{ext_get_or, take-length, take-set-lt}
use Rattle.std.specs.Array.{AllOfLen}
use Rattle.std.proofs.lemmas.List.{length-replicate, get_or-replicate, take_more_set, replicate_more}
use Rattle.span.specs.Held.{fits, next_in, pushed, filled}

module _ {T : Type 0} where
  pub has_room : (xs : List T) (n : ℕ) → n < length xs → fits (length xs) (take n xs) ≡ true
  has_room xs n h = lt-ltb (length (take n xs)) (length xs) (omega (arith, length-take-le n xs (omega arith)))

  pub next_is : (xs : List T) (n : ℕ) → n < length xs → Some n ≡ next_in (length xs) (take n xs)
  next_is xs n h = sym (ap Some (length-take-le n xs (omega arith))) ∙ ap (λ b. if b then Some (length (take n xs)) else None) (sym (has_room xs n h))

  pub push_held : (xs : List T) (n : ℕ) (x : T) → n < length xs → take (n + 1) (set xs n x) ≡ pushed (length xs) x (take n xs)
  push_held xs n x h = take_more_set xs n x h ∙ ap (λ b. if b then take n xs ++ x ∷ [] else take n xs) (sym (has_room xs n h))

  pub put_held : (xs : List T) (n i : ℕ) (x : T) → i < n → take n (set xs i x) ≡ set (take n xs) i x
  put_held xs n i x h = take-set-lt n xs i x h

  pub push_well : (xs : List T) (n : ℕ) (x : T) → n < length xs → n + 1 ≤ length (set xs n x)
  push_well xs n x h = omega (arith, length-set xs n x)

module _ {T : Type 0} (b : T) where
  pub push_rest : (xs : List T) (n : ℕ) (x : T) → n < length xs → drop n xs ≡ replicate (length xs - n) b → drop (n + 1) (set xs n x) ≡ replicate (length (set xs n x) - (n + 1)) b
  push_rest xs n x h e =
      let one : length xs - n ≡ suc (length xs - n - 1) = omega arith in
      let left : length xs - n - 1 ≡ length (set xs n x) - (n + 1) = omega (arith, length-set xs n x) in
      drop-set-lt (n + 1) xs n x (omega arith) ∙ sym (drop-drop 1 n xs) ∙ ap (drop 1) (e ∙ ap (λ k. replicate k b) one) ∙ ap (λ k. replicate k b) left

  pub more_blank : (xs : List T) (i : ℕ) (y : T) → i < length xs → y ≡ b → take i xs ≡ replicate i b → take (i + 1) (set xs i y) ≡ replicate (i + 1) b
  more_blank xs i y h e inv = take_more_set xs i y h ∙ (λ k. inv k ++ e k ∷ []) ∙ replicate_more i b

  -- all of it is blank
  pub all_of : (xs : List T) (n k : ℕ) → n ≡ length xs → k ≡ length xs → take n xs ≡ replicate n b → xs ≡ replicate k b
  all_of xs n k e f h = sym (take-length xs) ∙ ap (λ m. take m xs) (sym e) ∙ h ∙ ap (λ m. replicate m b) (e ∙ sym f)

  -- blanks, and more of them
  pub both_blank : (xs ys : List T) (n m : ℕ) → xs ≡ replicate n b → ys ≡ replicate m b → xs ++ ys ≡ replicate (length (xs ++ ys) - 0) b
  both_blank xs ys n m e f =
      let all : xs ++ ys ≡ replicate (n + m) b = (λ j. e j ++ f j) ∙ replicate-append-replicate n m b in
      let long : n + m ≡ length (xs ++ ys) - 0 = omega (arith, ap length all, length-replicate (n + m) b) in
      all ∙ ap (λ k. replicate k b) long

  -- the whole of a slice of which the rest is blank
  pub whole_filled : (xs : List T) (n : ℕ) → n ≤ length xs → drop n xs ≡ replicate (length xs - n) b → xs ≡ filled b (length xs) (take n xs)
  whole_filled xs n h e = sym (take-append-drop n xs) ∙ ap (λ r. take n xs ++ r) (e ∙ ap (λ k. replicate (length xs - k) b) (sym (length-take-le n xs h)))

-- an array of zeros
pub zeros : (xs : List ℕ) (n : ℕ) → AllOfLen (λ x. x ≡ 0) xs n → xs ≡ replicate n 0
zeros xs n h = ext_get_or 0 xs (replicate n 0) (h.long ∙ sym (length-replicate n 0)) (λ k p. let q : k < n = omega (arith, p, h.long) in h.at k 0 q ∙ sym (get_or-replicate n k 0 0 q))
