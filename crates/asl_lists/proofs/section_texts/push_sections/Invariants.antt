-- the sections so far are told, and what the search knows is so
use Rattle.std.proofs.Common.{string_bytes}
use Rattle.asl_explain.specs.Opened.{IsSearchOf}
use Rattle.asl_lists.specs.Written.{HasSections}
use Rattle.asl_lists.proofs.section_texts.push_sections.Given as goal

abbrev pub invariant-loop-section : goal.invariant-loop-section
invariant-loop-section l = record {
  told : HasSections l.facts l.opened l.section (string_bytes l.initial.text) (string_bytes l.text);
  search : IsSearchOf l.opened l.search;
}
