use Rattle.std.proofs.Common.{rules, ◌+◌, ◌<◌, ◌≤◌, sym, subst}
use Rattle.asl_lower.specs.OpenSections.{start_of}
use Rattle.asl_backward_flow.specs.declared.region.Region as code
use Rattle.asl_backward_flow.specs.Needed.{region_of}
use Rattle.asl_explain.specs.Chains.{Needs}
use Rattle.asl_explain.specs.Analysed.{read}
use Rattle.asl_explain.proofs.Walking.{body_pcs, section_pcs}
use Rattle.asl_explain.proofs.walk.span_of.Goals as goal

pub returns-in_ok-entry-in-Body-clause-pcs : goal.returns-in_ok-entry-in-Body-clause-pcs
returns-in_ok-entry-in-Body-clause-pcs c = λ pc lock needed q low high.
    let a = c.args.analysis.now in
    let within : c.min-end.result ≤ start_of a.lowering.functions c.in-Body.function + c.in_ok-entry-in-Body.entry.len = search rules in
    let first : start_of a.lowering.functions c.in-Body.function ≤ q = search (rules, low) in
    body_pcs a c.in-Body.function c.min-end.result pc lock c.in_ok-entry-in-Body.entry (sym c.in_ok-entry-in-Body.ensures) within
    (subst (λ (r : code.Region). Needs (read a) (region_of r) pc lock) c.in-Body.is needed) q first high

pub returns-in_ok-checked_add-in-Section-clause-pcs : goal.returns-in_ok-checked_add-in-Section-clause-pcs
returns-in_ok-checked_add-in-Section-clause-pcs c = λ pc lock needed q low high.
    let s = c.in_ok-section-in-Section.section in
    let after : s.acquire < c.in_ok-checked_add-in-Section.field-0 = search rules in
    section_pcs c.args.analysis.now c.in-Section.number c.in_ok-checked_add-in-Section.field-0 s (sym c.in_ok-section-in-Section.ensures) after q low high
