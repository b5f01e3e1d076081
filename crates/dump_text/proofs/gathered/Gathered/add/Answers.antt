use Rattle.std.proofs.Common.{◌≡◌, ℕ, List, ◌∷◌, map, length, Some, inl, refl, sym, ap, subst, ◌∙◌, arith}
use Rattle.std.specs.Prelude.{slice_get, IsPermutation}
use Rattle.std.specs.List.{Contains}
use Rattle.history.specs.declared.key.Key.{Key}
use Rattle.history.specs.Rows.{NamedRows, records_in}
use Rattle.dump_text.specs.Gathering.{names_of}
use Rattle.dump_text.proofs.Gathering.{nothing_had, something_had, as_many_names, within_names}
use Rattle.dump_text.proofs.gathered.Gathered.add.Goals as goal

pub put-requires : goal.put-requires
put-requires c =
    let placed = rw c.in-Some.is at c.in_ok-place.ensures in
    within_names c.self.inside.tables.items c.in-Some.place c.args.key.now.table (ap (λ (tables : List NamedRows). slice_get (names_of tables) c.in-Some.place) c.self.view_is ∙ placed.0)

pub returns-then-is_some : goal.returns-then-is_some
returns-then-is_some c =
    let items = c.self.inside.tables.items in
    let placed = rw c.in-Some.is at c.in_ok-place.ensures in
    let at = ap (λ (tables : List NamedRows). slice_get (names_of tables) c.in-Some.place) c.self.view_is ∙ placed.0 in
    let records : records_in items ≡ records_in c.args.self.now = ap records_in c.self.view_is ∙ placed.2 in
    let had = something_had items c.put.new.tables.items c.args.key.now.table (c.args.key.now.key, c.args.value) c.in_ok-had.had (sym c.is_some.ensures ∙ c.if-is_some.true) (c.in_ok-had.ensures.put c.args.key.now.table at) in
    inl (refl, had.0, subst (λ (entries : List (Key × List ℕ)). Contains entries (c.args.key.now, had.0)) records had.1)

pub returns : goal.returns
returns c =
    let items = c.self.inside.tables.items in
    let placed = rw c.in-Some.is at c.in_ok-place.ensures in
    let at = ap (λ (tables : List NamedRows). slice_get (names_of tables) c.in-Some.place) c.self.view_is ∙ placed.0 in
    let records : records_in items ≡ records_in c.args.self.now = ap records_in c.self.view_is ∙ placed.2 in
    let new = c.put.new.tables.items in
    let more = nothing_had items new c.args.key.now.table (c.args.key.now.key, c.args.value) c.in_ok-had.had (sym c.is_some.ensures ∙ c.if-is_some.false) (c.in_ok-had.ensures.put c.args.key.now.table at) in
    let same : names_of new ≡ names_of c.place.new.self = c.in_ok-had.ensures.names ∙ ap (λ (tables : List NamedRows). names_of tables) c.self.view_is in (
      subst (λ (entries : List (Key × List ℕ)). IsPermutation ((c.args.key.now, c.args.value) ∷ entries) (records_in new)) records more,
      same ∙ placed.1,
      λ few. omega (arith, placed.3 few, ap length same, as_many_names new, as_many_names c.place.new.self),
    )
