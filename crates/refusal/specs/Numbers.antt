-- The numbers of kinds and layers. Assumes nothing.
use Rattle.std.specs.Prelude.{ℕ}
use Rattle.refusal.specs.declared.Kind.{Kind}
use Rattle.refusal.specs.declared.Kind.TheVariants.{InvalidConversion, InvalidType, InvalidFormat, IOError, Utf8Error, TooLong, BadPool, TooDeep, PoolFull, TextsFull, BadRecord, Full, EndOfRoll}
use Rattle.refusal.specs.declared.Layer.{Layer}
use Rattle.refusal.specs.declared.Layer.TheVariants.{NoLayer, Payload, Chunk, Span, Link, Event, Attribute, Text, Skipped}

abbrev pub kind_number : Kind → ℕ
kind_number InvalidConversion = 1
kind_number InvalidType = 2
kind_number InvalidFormat = 3
kind_number IOError = 4
kind_number Utf8Error = 5
kind_number TooLong = 6
kind_number BadPool = 7
kind_number TooDeep = 8
kind_number PoolFull = 9
kind_number TextsFull = 10
kind_number BadRecord = 11
kind_number Full = 12
kind_number EndOfRoll = 13

abbrev pub layer_number : Layer → ℕ
layer_number NoLayer = 0
layer_number Payload = 1
layer_number Chunk = 2
layer_number Span = 3
layer_number Link = 4
layer_number Event = 5
layer_number Attribute = 6
layer_number Text = 7
layer_number Skipped = 8
