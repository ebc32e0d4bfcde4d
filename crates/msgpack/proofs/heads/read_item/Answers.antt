-- The check does not find this alone.
use Rattle.std.proofs.Common.{◌≡◌, arith}
use Rattle.std.proofs.lemmas.Grind.{common_steps}
use Rattle.std.specs.Option.{option_map}
use Rattle.msgpack.specs.Items.{front, item_at}
use Rattle.msgpack.proofs.Writings.{read_shorter}
use Rattle.msgpack.proofs.heads.read_item.Goals as goal

pub returns-clause-shorter : goal.returns-clause-shorter
returns-clause-shorter c =
    let read : option_map front c.read_marked.result ≡ item_at c.args.s.now = grind (arith, common_steps) in
    read_shorter c.read_marked.result c.args.s.now read
