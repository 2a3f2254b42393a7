use Rattle.std.proofs.Common.{◌≡◌, ap, sym, cond, ◌∙◌, None, Some, is_some, false, List, [], ◌∷◌, ◌++◌, ℕ}
use Rattle.std.specs.Prelude.{bytes_eq}
use Rattle.std.specs.Option.{option_or}
use Rattle.std.proofs.Math.Path.{fun_ext}
use Rattle.asl_syntax.specs.NumberedNamesView.{number_among, number_in_tree, counts_in}
use Rattle.asl_syntax.specs.Rules.{Counts}
use Rattle.asl_syntax.proofs.KnownNames.{is_some_with, with_tree, with_pushed, none_from, refill_same}
use Rattle.asl_syntax.proofs.numbered_names.NumberedNames.add.Goals as goal

pub returns-in_ok-add_to_tree-clause-counts : goal.returns-in_ok-add_to_tree-clause-counts
returns-in_ok-add_to_tree-clause-counts c =
    let few = c.args.self.now.few.items in
    let x : List ℕ = c.args.name.now in
    let there : is_some (number_among c.as_mut_slice.result.now c.as_slice.result.now) ≡ false = sym c.renumber.ensures.there ∙ c.if-renumber.false in
    let row : is_some (number_among few c.as_slice.result.now) ≡ false = ap (λ l. is_some (number_among l c.as_slice.result.now)) (sym c.as_mut_slice.ensures.value) ∙ there in
    let none : number_among few x ≡ None = ap (number_among few) (sym c.as_slice.ensures.bytes) ∙ none_from _ row in
    let same = refill_same few c.renumber.new.names (c.renumber.ensures.same c.if-renumber.false ∙ c.as_mut_slice.ensures.value) in
    fun_ext (λ (q : List ℕ).
    let old = number_in_tree c.args.self.now q in
    let new = number_in_tree c.add_to_tree.new.self q in
    ap (λ row. option_or (number_among row.items q) new) c.add_to_tree.ensures.row
    ∙ ap (λ l. option_or (number_among l q) new) same
    ∙ with_tree x c.args.number (number_among few) old new q none (c.in_ok-add_to_tree.ensures.map q ∙ ap (λ bs. cond (bytes_eq bs q) (Some c.args.number) old) c.as_slice-then-is_full.ensures.bytes))

pub returns-in_ok-add_to_tree-clause-names : goal.returns-in_ok-add_to_tree-clause-names
returns-in_ok-add_to_tree-clause-names c =
    fun_ext (λ (q : List ℕ). ap (λ (counts : Counts). is_some (counts q)) (returns-in_ok-add_to_tree-clause-counts c) ∙ is_some_with (bytes_eq c.args.name.now q) c.args.number (counts_in c.args.self.now q))

pub returns-else-is_full-clause-counts : goal.returns-else-is_full-clause-counts
returns-else-is_full-clause-counts c =
    let few = c.args.self.now.few.items in
    let k = c.as_slice-else-is_full.result in
    let there : is_some (number_among c.as_mut_slice.result.now c.as_slice.result.now) ≡ false = sym c.renumber.ensures.there ∙ c.if-renumber.false in
    let row : is_some (number_among few c.as_slice.result.now) ≡ false = ap (λ l. is_some (number_among l c.as_slice.result.now)) (sym c.as_mut_slice.ensures.value) ∙ there in
    let none : number_among few k.now ≡ None = ap (number_among few) (c.as_slice-else-is_full.ensures.bytes ∙ sym c.as_slice.ensures.bytes) ∙ none_from _ row in
    let same = refill_same few c.renumber.new.names (c.renumber.ensures.same c.if-renumber.false ∙ c.as_mut_slice.ensures.value) in
    fun_ext (λ (q : List ℕ).
    let old = number_in_tree c.args.self.now q in
    with_pushed few c.push.new.self.items k c.args.number old q (c.push.ensures.items ∙ ap (λ l. l ++ (k, c.args.number) ∷ []) same) none
    ∙ ap (λ bs. cond (bytes_eq bs q) (Some c.args.number) (counts_in c.args.self.now q)) c.as_slice-else-is_full.ensures.bytes)

pub returns-else-is_full-clause-names : goal.returns-else-is_full-clause-names
returns-else-is_full-clause-names c =
    fun_ext (λ (q : List ℕ). ap (λ (counts : Counts). is_some (counts q)) (returns-else-is_full-clause-counts c) ∙ is_some_with (bytes_eq c.args.name.now q) c.args.number (counts_in c.args.self.now q))
