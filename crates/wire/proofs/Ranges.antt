-- The integers of the signed formats, and the keys that a record does not know. Assumes nothing.
use Rattle.std.proofs.Common.{◌≡◌, ℕ, suc, ◌-◌, ◌*◌, ◌≤◌, true, false, eqb, ltb, List, ℤ, pos, negsuc, arith}
use Rattle.std.proofs.lemmas.Bool.Decides.{nat_tests}
use Rattle.std.specs.Prelude.{if◌then◌else◌}
use Rattle.msgpack.specs.Formats.{Head, int8, int16, int32, int64, negative_fixint}
use Rattle.msgpack.specs.declared.Item.TheVariants as i
use Rattle.wire.specs.Standing.{Standing}
use Rattle.wire.specs.Form.{HeadAt, head, Within}
use Rattle.wire.specs.Records.{unknown}

-- two's complement over 2 * half numbers
complement : (half n : ℕ) → half ≤ 0x8000000000000000 → Within 0x8000000000000000 (if ltb n half then pos n else negsuc (2 * half - suc n))
complement half n h = grind (arith, nat_tests)

of_head : {z : ℤ} {p q : List ℕ} → Head (i.Signed z) p q → Within 0x8000000000000000 z
of_head (int8 {n} s) = complement 0x80 n (omega arith)
of_head (int16 {n} s) = complement 0x8000 n (omega arith)
of_head (int32 {n} s) = complement 0x80000000 n (omega arith)
of_head (int64 {n} s) = complement 0x8000000000000000 n (omega arith)
of_head (negative_fixint {n} h) = complement 0x80 _ (omega arith)

-- they all are of 64 bits
pub signed-within : {z : ℤ} {p q : Standing} → HeadAt (i.Signed z) p q → Within 0x8000000000000000 z
signed-within (head h) = of_head h

-- an unknown key is none of the known ones
pub apart : (first last k j : ℕ) → unknown first last k ≡ true → first ≤ j → j ≤ last → eqb k j ≡ false
apart first last k j e h g = grind (arith, nat_tests)

-- and one that is none of them is unknown
pub none-known : (first last k : ℕ) → (first ≤ k → k ≤ last → ⊥) → unknown first last k ≡ true
none-known first last k h = grind (arith, nat_tests)
