-- What readers keep, one after the other. Assumes nothing.
use Rattle.std.proofs.Common.{◌∙◌}
use Rattle.decode.specs.declared.decoder.Decoder.{Decoder}
use Rattle.decode.specs.State.{Kept}

pub kept_also : {d e f : Decoder} → Kept d e → Kept e f → Kept d f
kept_also k j = record { bytes = j.bytes ∙ k.bytes; room = j.room ∙ k.room; buf = j.buf ∙ k.buf; table = j.table ∙ k.table; records = j.records ∙ k.records }
