-- How an answer is printed. Assumes nothing.
use Rattle.std.specs.Prelude.{ℕ, List, ◌++◌, codes, decimal, Ok, Err, Result}
use Rattle.refusal.specs.Text.{refusal_text}
use Rattle.refusal.specs.declared.Refusal.{Refusal}
use Rattle.summary.specs.declared.Summary.{Summary}

-- its numbers, with a space between two
abbrev pub summary_text : Summary → List ℕ
summary_text s =
    decimal s.read ++ codes " " ++ decimal s.chunks ++ codes " " ++ decimal s.spans ++ codes " " ++ decimal s.links ++ codes " "
    ++ decimal s.events ++ codes " " ++ decimal s.nodes ++ codes " " ++ decimal s.texts

abbrev pub line_text : Result Summary Refusal → List ℕ
line_text (Ok s) = codes "ok " ++ summary_text s
line_text (Err e) = codes "refused " ++ refusal_text e
