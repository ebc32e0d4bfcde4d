-- The worked cases, by computing them. Assumes nothing.
use Rattle.std.proofs.Common.{refl}
use Rattle.msgpack.specs.Items.{item_from}
use Rattle.utf8.specs.Machine.{next}
use Rattle.skipped.specs.Skip.{skip}
use Rattle.attributes.specs.Attributes.{member}
use Rattle.msgpack_decoder.specs.Chunk.{chunks}
use Rattle.msgpack_decoder.specs.Payload.{payload}
use Rattle.msgpack_decoder.specs.Whole.{decoded}
use Rattle.cases.specs.Cases.{CasesStand}

pub stand : CasesStand
unfolding decoded payload chunks member skip item_from next
stand = (refl, (refl, (refl, (refl, (refl, (refl, (refl, (refl, (refl, (refl, (refl, (refl, tt))))))))))))
