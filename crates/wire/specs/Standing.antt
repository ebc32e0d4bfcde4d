-- Where a writing stands: the bytes from there on, the texts that have a number, the records so far. Assumes nothing.
use Rattle.std.specs.Prelude.{ℕ, suc, ◌≤◌, List, [], ◌∷◌, ◌++◌, length}
use Rattle.wire.specs.Payload.{Text}

-- how many records of each kind, those of repeated keys included
pub record Used : Type 0 where
  pub chunks : ℕ
  pub spans : ℕ
  pub links : ℕ
  pub events : ℕ
  pub nodes : ℕ

pub record Standing : Type 0 where
  pub bytes : List ℕ
  pub texts : List Text
  pub used : Used

-- p with other bytes, and with more of them in front
abbrev pub at : List ℕ → Standing → Standing
at l p = record p { bytes = l }

abbrev pub before : List ℕ → Standing → Standing
before l p = at (l ++ p.bytes) p

-- p once the text t has taken the next number
abbrev pub noting : Text → Standing → Standing
noting t p = record p { texts = p.texts ++ t ∷ [] }

abbrev pub with_used : Used → Standing → Standing
with_used u p = record p { used = u }

-- p with one record more
abbrev pub count_chunk : Standing → Standing
count_chunk p = with_used (record p.used { chunks = suc p.used.chunks }) p

abbrev pub count_span : Standing → Standing
count_span p = with_used (record p.used { spans = suc p.used.spans }) p

abbrev pub count_link : Standing → Standing
count_link p = with_used (record p.used { links = suc p.used.links }) p

abbrev pub count_event : Standing → Standing
count_event p = with_used (record p.used { events = suc p.used.events }) p

abbrev pub count_node : Standing → Standing
count_node p = with_used (record p.used { nodes = suc p.used.nodes }) p

-- before the first byte: the empty text has the number 0
abbrev pub start_of : List ℕ → Standing
start_of l = record { bytes = l; texts = [] ∷ []; used = record { chunks = 0; spans = 0; links = 0; events = 0; nodes = 0 } }

-- how many texts and records there may be
pub record Rooms : Type 0 where
  pub texts : ℕ
  pub chunks : ℕ
  pub spans : ℕ
  pub links : ℕ
  pub events : ℕ
  pub nodes : ℕ

-- no more than that
pub record Fits (rooms : Rooms) (p : Standing) : Type 0 where
  pub texts : length p.texts ≤ rooms.texts
  pub chunks : p.used.chunks ≤ rooms.chunks
  pub spans : p.used.spans ≤ rooms.spans
  pub links : p.used.links ≤ rooms.links
  pub events : p.used.events ≤ rooms.events
  pub nodes : p.used.nodes ≤ rooms.nodes
