-- What the readers' parameters are to their definitions. Assumes nothing.
use Rattle.std.specs.Prelude.{◌≡◌, ℕ, List, Result}
use Rattle.refusal.specs.Runs.{ReadOn}
use Rattle.refusal.specs.declared.Refusal.{Refusal}
use Rattle.span.specs.State.{texts_of, most, pools_of, rooms_of}
use Rattle.span.specs.declared.table.StringTable.{StringTable}
use Rattle.span.specs.declared.records.Records.{Records}
use Rattle.decode.specs.declared.buffer.Buffer.{Buffer}
use Rattle.decode.specs.declared.decoder.Decoder.{Decoder}
use Rattle.decode.specs.Texts.{Strings}
use Rattle.decode.specs.Reader.{State, Room, Read}

abbrev pub bytes_of : Buffer → List ℕ
bytes_of b = b.bytes.now

abbrev pub strings_of : Buffer → StringTable → Strings
strings_of b t = record { at = b.at; texts = texts_of t }

abbrev pub state_of : Buffer → StringTable → Records → State
state_of b t r = record { at = b.at; texts = texts_of t; pools = pools_of r }

abbrev pub room_of : StringTable → Records → Room
room_of t r = record { texts = most t; pools = rooms_of r }

-- the reader ran on the buffer b, which is b' now, and answered or refused as x says
pub record Ran {A : Type 0} (reader : List ℕ → ReadOn ℕ A) (b b' : Buffer) (x : Result A Refusal) : Type 0 where
  pub ran : (x, b'.at) ≡ reader (bytes_of b) b.at
  pub kept : bytes_of b' ≡ bytes_of b

-- and a reader of texts, with the table t, which is t' now, and which takes as many texts as before
pub record RanTexts {A : Type 0} (reader : List ℕ → ℕ → ReadOn Strings A) (b b' : Buffer) (t t' : StringTable) (x : Result A Refusal) : Type 0 where
  pub ran : (x, strings_of b' t') ≡ reader (bytes_of b) (most t) (strings_of b t)
  pub kept : bytes_of b' ≡ bytes_of b
  pub room : most t' ≡ most t

-- the parts of a decoder
abbrev pub input_of : Decoder → List ℕ
input_of d = bytes_of d.buf.now

abbrev pub at_of : Decoder → State
at_of d = state_of d.buf.now d.table.now d.records.now

abbrev pub space_of : Decoder → Room
space_of d = room_of d.table.now d.records.now

-- what no reader changes: the bytes, the rooms, and which buffer, table and records it has
pub record Kept (d d' : Decoder) : Type 0 where
  pub bytes : input_of d' ≡ input_of d
  pub room : space_of d' ≡ space_of d
  pub buf : d'.buf.ghost_name ≡ d.buf.ghost_name
  pub table : d'.table.ghost_name ≡ d.table.ghost_name
  pub records : d'.records.ghost_name ≡ d.records.ghost_name

-- the reader ran from d to d' and answered or refused as x says
pub record Did {A : Type 0} (reader : List ℕ → Room → Read A) (d d' : Decoder) (x : Result A Refusal) : Type 0 where
  pub ran : (x, at_of d') ≡ reader (input_of d) (space_of d) (at_of d)
  pub kept : Kept d d'
