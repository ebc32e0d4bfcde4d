-- What some records say, worked out. Assumes nothing.
use Rattle.std.proofs.Common.{◌≡◌, ℕ, true, List, [], ◌∷◌, negsuc, refl}
use mathlib.Core.Option.{some, none}
use Rattle.span.specs.Blank.{no_place, no_range, no_id}
use Rattle.span.specs.declared.types.Place.{Place}
use Rattle.span.specs.declared.types.Node.{Node}
use Rattle.span.specs.declared.types.SpanLink.{SpanLink}
use Rattle.wire.specs.Payload.{text_value, bool_value, int_value, list_value, map_value, Item, no_value, value, no_entry, entry}
use Rattle.meaning.specs.Shown.{shown, shown_in, shown_links}

input : List ℕ
input = 97 ∷ 98 ∷ 99 ∷ 100 ∷ []

at : ℕ → Place
at n = record { offset = n; length = 1 }

-- a → [-1, b], c → true
nodes : List Node
nodes =
    record { key = at 0; type_number = 6; pattern = 0; place = no_place; inside = 2 }
    ∷ record { key = no_place; type_number = 4; pattern = 0xffffffffffffffff; place = no_place; inside = 0 }
    ∷ record { key = no_place; type_number = 1; pattern = 0; place = at 1; inside = 0 }
    ∷ record { key = at 2; type_number = 2; pattern = 1; place = no_place; inside = 0 }
    ∷ []

items : List Item
items = ((97 ∷ []), list_value (value (int_value (negsuc 0)) (value (text_value (98 ∷ [])) no_value))) ∷ ((99 ∷ []), bool_value true) ∷ []

all-nodes : shown input nodes ≡ some items
unfolding input at nodes items
all-nodes = refl

-- the same inside a map, under d
as-map : shown input (record { key = at 3; type_number = 7; pattern = 0; place = no_place; inside = 4 } ∷ nodes) ≡ some (((100 ∷ []), map_value (entry (97 ∷ []) (list_value (value (int_value (negsuc 0)) (value (text_value (98 ∷ [])) no_value))) (entry (99 ∷ []) (bool_value true) no_entry))) ∷ [])
unfolding input at nodes
as-map = refl

-- a range that leaves the nodes, and the empty one
too_far : shown_in input (record { first = 3; count = 2 }) nodes ≡ none
unfolding input at nodes
too_far = refl

no-nodes : shown_in input no_range nodes ≡ some []
unfolding input at nodes
no-nodes = refl

-- a range that cuts a list off its members; a flag that is none; a node of no type; a text with nodes inside
cut : shown_in input (record { first = 0; count = 2 }) nodes ≡ none
unfolding input at nodes
cut = refl

no_flag : shown input (record { key = at 0; type_number = 2; pattern = 2; place = no_place; inside = 0 } ∷ []) ≡ none
unfolding input at
no_flag = refl

no-type : shown input (record { key = at 0; type_number = 0; pattern = 0; place = no_place; inside = 0 } ∷ []) ≡ none
unfolding input at
no-type = refl

not-alone : shown input (record { key = at 0; type_number = 1; pattern = 0; place = at 1; inside = 4 } ∷ nodes) ≡ none
unfolding input at nodes
not-alone = refl

link : SpanLink
link = record { trace_id = no_id; span_id = 7; attributes = record { first = 3; count = 1 }; tracestate = at 3; flags = 1 }

one_link : shown_links input (record { chunks = []; spans = []; links = link ∷ []; events = []; nodes = nodes }) (record { first = 0; count = 1 }) ≡ some (record { trace_id = no_id; span_id = 7; attributes = ((99 ∷ []), bool_value true) ∷ []; tracestate = 100 ∷ []; flags = 1 } ∷ [])
unfolding input at nodes link
one_link = refl
