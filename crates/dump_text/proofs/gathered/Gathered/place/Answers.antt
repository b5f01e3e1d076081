use Rattle.std.proofs.Common.{◌≡◌, ℕ, List, [], ◌∷◌, ◌++◌, length, refl, sym, ap, ◌∙◌, arith}
use Rattle.std.specs.Prelude.{slice_get}
use Rattle.history.specs.Rows.{NamedRows, records_in}
use Rattle.dump_text.specs.Gathering.{names_of}
use Rattle.dump_text.proofs.Gathering.{is_among, is_new, names-push, records-empty, last_name, as_many_names}
use Rattle.dump_text.proofs.gathered.Gathered.place.Goals as goal

pub returns-in-Some : goal.returns-in-Some
returns-in-Some c =
    let same : c.deref.result.now ≡ c.args.self.now = c.deref.ensures.value ∙ c.self.view_is in
    let at = ap (λ (tables : List NamedRows). slice_get (names_of tables) c.in-Some.place) (sym same) ∙ c.in-Some.ensures.some.1 in
    (at, is_among (names_of c.args.self.now) c.in-Some.place c.args.name.now at, refl, λ few. few)

pub returns : goal.returns
returns c =
    let items = c.self.inside.tables.items in
    let table : NamedRows = (c.args.name.now, c.new.result) in
    let same : c.deref.result.now ≡ c.args.self.now = c.deref.ensures.value ∙ c.self.view_is in
    let pushed = c.in_ok-push.ensures.items in
    let names : names_of c.push.new.self.items ≡ names_of c.args.self.now ++ c.args.name.now ∷ [] =
    ap (λ (tables : List NamedRows). names_of tables) pushed ∙ names-push items table ∙ ap (λ (tables : List NamedRows). names_of tables ++ c.args.name.now ∷ []) c.self.view_is in
    let other = ap (λ (tables : List NamedRows). names_of tables) same in
    let count : c.len-count.result ≡ length (names_of c.args.self.now) =
    omega (arith, c.len-count.ensures, as_many_names items, ap (λ (tables : List NamedRows). length (names_of tables)) c.self.view_is) in (
      ap (λ (l : List (List ℕ)). slice_get l c.len-count.result) names ∙ ap (λ (n : ℕ). slice_get (names_of c.args.self.now ++ c.args.name.now ∷ []) n) count ∙ last_name (names_of c.args.self.now) c.args.name.now,
      names ∙ is_new (names_of c.args.self.now) c.args.name.now (rw other at c.in_default.ensures.none),
      ap (λ (tables : List NamedRows). records_in tables) pushed ∙ records-empty items table c.new.ensures ∙ ap records_in c.self.view_is,
      λ few. omega (arith, c.if-count-eq-TABLES_MAX.false, few, count, as_many_names c.args.self.now, ap length pushed, as_many_names items),
    )
