-- What the fields of a `LinkContext` of src/link.rt say of the program.
use Rattle.asl_lock_expr.specs.declared.link_context.LinkContext.{LinkContext}
use Rattle.asl_lock_expr.specs.Links as links
use Rattle.asl_lock_expr.specs.Links.{view}
use Rattle.asl_lock_expr.specs.Stores.{stores}

-- what links are read against, by its fields
abbrev pub seen : LinkContext → links.LinkContext
seen v = view v.classes.now (stores v.writes.now) v.k_limit v.function
