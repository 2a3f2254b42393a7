use Rattle.std.proofs.Common.{◌≡◌, ◌==◌, false, length, rules, string_bytes}
use Rattle.asl_show.specs.Nodes.{ask_line, clash_lines, node_lines}
use Rattle.asl_show.proofs.Texts.{asked_some, grown}
use Rattle.asl_show.proofs.request_lines.push_request.Goals as goal

pub returns : goal.returns
returns c =
    let some : (length c.args.request.now == 0) ≡ false = search rules in
    rw (asked_some c.args.classes c.args.machine.now.state c.args.t c.args.request.now some)
    (grown c.push_nodes-2.result (string_bytes c.args.text.now) (string_bytes c.push_nodes.new.text) (string_bytes c.push_nodes-2.new.text)
    (node_lines c.args.classes c.args.machine.now.state (ask_line c.args.t c.args.request.now))
    (node_lines c.args.classes c.args.machine.now.state (clash_lines c.args.machine.now.state c.args.t c.args.request.now))
    c.in_ok-push_nodes.ensures c.push_nodes-2.ensures)
