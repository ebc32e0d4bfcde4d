-- A payload's writing is independent of what follows. Assumes nothing.
use Rattle.std.proofs.Common.{◌∷◌, arith}
use Rattle.wire.specs.Stands.{Independent}
use Rattle.wire.proofs.Records.{payload-begun}

pub independent : Independent
independent v p q h =
    let w = payload-begun h in
    record { written = w.first ∷ w.others; never_empty = λ e. grind arith; before = w.before; anywhere = w.anywhere }
