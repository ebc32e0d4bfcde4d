use Rattle.std.proofs.Common.{◌+◌, ◌*◌}
use Rattle.attributes.specs.Element.{has_key}
use Rattle.attributes.specs.Attributes.{member}
use Rattle.decode.proofs.Turns.{Left}
use Rattle.attributes.proofs.map.+attributes.Given as goal

-- A level has six calls, and each stands above the one that it makes.
abbrev pub decreases-read_typed_attribute_value : goal.decreases-read_typed_attribute_value
decreases-read_typed_attribute_value l = 6 * l.depth + 5

abbrev pub decreases-read_body : goal.decreases-read_body
decreases-read_body l = 6 * l.depth + 4

abbrev pub decreases-read_attributes_map : goal.decreases-read_attributes_map
decreases-read_attributes_map l = 6 * l.depth + 3

abbrev pub decreases-read_group : goal.decreases-read_group
decreases-read_group l = 6 * l.depth + 2

abbrev pub decreases-repeat_member : goal.decreases-repeat_member
decreases-repeat_member l = 6 * l.depth + 1

abbrev pub decreases-read_member : goal.decreases-read_member
decreases-read_member l = 6 * l.depth

abbrev pub invariant-repeat_member-loop : goal.invariant-repeat_member-loop
invariant-repeat_member-loop l =
    Left (λ input room u. member input room l.depth (has_key l.element)) l.initial.decoder l.decoder l.count l.counter tt tt
