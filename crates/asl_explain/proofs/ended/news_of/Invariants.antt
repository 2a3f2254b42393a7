use Rattle.std.proofs.Common.{◌<◌, ℕ}
use Rattle.asl_explain.specs.Analysed.{read, IsMadeAt}
use Rattle.asl_explain.specs.Endings.{Has}
use Rattle.asl_explain.proofs.ended.news_of.Given as goal

abbrev pub invariant-loop-pc : goal.invariant-loop-pc
invariant-loop-pc l = (q to : ℕ) → q < l.pc → IsMadeAt (read l.analysis) l.fn.section q to → Has q l.news.items
