use Rattle.asl_lists.proofs.Plain.{classes_plain, functions_plain}
use Rattle.asl_lists.proofs.document.push_before.Goals as goal

pub push_list-requires : goal.push_list-requires
push_list-requires c = rw c.in_ok-classes.ensures (classes_plain c.args.facts.now 0 c.args.facts.now.map.classes)

pub push_list-requires-2 : goal.push_list-requires-2
push_list-requires-2 c = rw (c.in_ok-functions.ensures, c.deref.ensures.value) (functions_plain c.args.facts.now c.args.facts.now.map.functions.items)
