use Rattle.std.proofs.Common.{◌≡◌, inl, inr, sym, subst}
use Rattle.std.proofs.lemmas.Bool.{cases_eq}
use Rattle.page_store.specs.State.{log_of}
use Rattle.page_store.specs.Played.{top_of}
use Rattle.page_store.proofs.Tops.{top_of_data, top_of_list, top_of_other, top_of_saved}
use Rattle.page_store.proofs.laws.a_top_is_one_write.Goals as goal

pub returns-clause-committed : goal.returns-clause-committed
returns-clause-committed c s t parts kept placed = top_of_data c.args.shape.now s kept t parts placed

pub returns-clause-parts : goal.returns-clause-parts
returns-clause-parts c s t parts u kept placed = elim (cases_eq u t) [
  | inl is ↦ subst (λ k. log_of (top_of t parts s) k ≡ log_of s k) (sym is) (top_of_list c.args.shape.now s kept t parts placed)
  | inr ne ↦ top_of_other s t parts u ne
]

pub returns-clause-saves : goal.returns-clause-saves
returns-clause-saves c s t parts = top_of_saved s t parts
