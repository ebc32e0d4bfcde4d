-- One level of an entry or a member. Assumes nothing.
use Rattle.std.proofs.Common.{◌≡◌, ℕ, suc, ◌-◌, ◌<◌, Bool, List, ap, arith}
use Rattle.refusal.specs.Runs.{refuse}
use Rattle.refusal.specs.declared.Kind.TheVariants.{TooDeep}
use Rattle.refusal.specs.declared.Layer.TheVariants.{Attribute}
use Rattle.decode.specs.Reader.{State, Room}
use Rattle.attributes.specs.Attributes.{member_of, member}

pub member_none : (b : List ℕ) (r : Room) (depth : ℕ) (keyed : Bool) (s : State) → depth ≡ 0 → member b r depth keyed s ≡ refuse TooDeep Attribute s.at s
unfolding member
member_none b r depth keyed s e = ap (λ n. member b r n keyed s) e

pub member_at : (b : List ℕ) (r : Room) (depth : ℕ) (keyed : Bool) (s : State) → 0 < depth → member b r depth keyed s ≡ member_of b r (member b r (depth - 1)) keyed s
unfolding member
member_at b r depth keyed s h = let e : depth ≡ suc (depth - 1) = omega arith in ap (λ n. member b r n keyed s) e
