use Rattle.std.proofs.Common.{◌≡◌, ◌<◌, ◌≤◌, ℕ, zero, suc, inl, inr, List, [], ◌∷◌, Option, Some, None, refl, sym, ◌∙◌, ap, subst, arith}
use Rattle.std.specs.Prelude.{IfSome, codes, get_or, slice_get}
use Rattle.array_shape.specs.declared.shape.Shape.{Shape}
use Rattle.array_shape.specs.Places.{page_count}
use Rattle.std.specs.Option.{option_map}
use Rattle.std.proofs.lemmas.Bool.{cases_eq}
use Rattle.record_slots.specs.Names.{names_in}
use Rattle.record_slots.specs.Super.{HasTables, IsMain, tables_in, tables_said, tables_used}
use Rattle.record_slots.specs.declared.super_page.TableEntry.{TableEntry}
use Rattle.record_table.specs.Names.{BeginsWithMain}
use Rattle.record_table.proofs.Rooted.{root_inside}
use Rattle.record_table.proofs.names.names_and_roots.Goals as goal

pub returns-clause-names : goal.returns-clause-names
unfolding tables_said
returns-clause-names g c = λ told.
    let says = c.in-Some.ensures.says in
    c.of.ensures ∙ (λ i. names_in (tables_in (says.version i) (says.entries i))) ∙ ap (λ (page : List ℕ). names_in (tables_said page)) (c.in_ok-fetch_page.ensures.bytes told)

-- the root of a table that there is
its_root : (o : Option ℕ) (pages root result : ℕ) → IfSome o (λ root. root < pages → result ≡ root) → o ≡ Some root → root < pages → result ≡ root
its_root None pages root result says is lt = absurd (cc)
its_root (Some other) pages root result says is lt =
    let same : other ≡ root = cc in
    subst (λ (r : ℕ). r < pages → result ≡ r) same says lt

-- what holds of each number below 8
eight : (A : ℕ → Type 0) → A 0 → A 1 → A 2 → A 3 → A 4 → A 5 → A 6 → A 7 → (n : ℕ) → n < 8 → A n
eight A a b c d e f g h zero lt = a
eight A a b c d e f g h (suc zero) lt = b
eight A a b c d e f g h (suc (suc zero)) lt = c
eight A a b c d e f g h (suc (suc (suc zero))) lt = d
eight A a b c d e f g h (suc (suc (suc (suc zero)))) lt = e
eight A a b c d e f g h (suc (suc (suc (suc (suc zero))))) lt = f
eight A a b c d e f g h (suc (suc (suc (suc (suc (suc zero)))))) lt = g
eight A a b c d e f g h (suc (suc (suc (suc (suc (suc (suc zero))))))) lt = h
eight A a b c d e f g h (suc (suc (suc (suc (suc (suc (suc (suc n)))))))) lt = absurd (omega (arith, lt))

pub returns-clause-roots : goal.returns-clause-roots
unfolding tables_said
returns-clause-roots g c = λ told table root lt is.
    let V = g.S.EawStore.view in
    let store = c.args.pages.now.store in
    let says = c.in-Some.ensures.says in
    let front = c.in-Some.front in
    let inside : root < page_count (g.S.EawStore.view c.fetch_page.new.pages.store).shape =
    subst (λ (s : Shape). root < page_count s) (sym c.in_ok-fetch_page.ensures.looks.shape)
    (root_inside (V store).state.bytes (V store).shape (g.met.S.EawStore.long store told) (c.requires told c.in_ok-fetch_page.ensures.cause) table root is) in
    let entry : option_map (λ entry. entry.root) (slice_get (tables_in c.in-Some.front.version c.in-Some.front.entries) table) ≡ Some root =
    (λ i. option_map (λ entry. entry.root) (slice_get (tables_in (says.version i) (says.entries i)) table))
    ∙ ap (λ (page : List ℕ). option_map (λ entry. entry.root) (slice_get (tables_said page) table)) (c.in_ok-fetch_page.ensures.bytes told) ∙ is in
    eight (λ (n : ℕ). option_map (λ entry. entry.root) (slice_get (tables_in c.in-Some.front.version c.in-Some.front.entries) n) ≡ Some root
    → get_or (c.root_of-r0.result ∷ c.root_of-r1.result ∷ c.root_of-r2.result ∷ c.root_of-r3.result ∷ c.root_of-r4.result ∷ c.root_of-r5.result ∷ c.root_of-r6.result ∷ c.root_of-r7.result ∷ []) n 0 ≡ root)
    (λ e. its_root _ _ root c.root_of-r0.result c.root_of-r0.ensures.root e inside)
    (λ e. its_root _ _ root c.root_of-r1.result c.root_of-r1.ensures.root e inside)
    (λ e. its_root _ _ root c.root_of-r2.result c.root_of-r2.ensures.root e inside)
    (λ e. its_root _ _ root c.root_of-r3.result c.root_of-r3.ensures.root e inside)
    (λ e. its_root _ _ root c.root_of-r4.result c.root_of-r4.ensures.root e inside)
    (λ e. its_root _ _ root c.root_of-r5.result c.root_of-r5.ensures.root e inside)
    (λ e. its_root _ _ root c.root_of-r6.result c.root_of-r6.ensures.root e inside)
    (λ e. its_root _ _ root c.root_of-r7.result c.root_of-r7.ensures.root e inside)
    table lt entry

-- the first table of a super page
main_first : (version next : ℕ) (entries : List ℕ) → 1 ≤ version → version ≤ 2 → HasTables version next entries → BeginsWithMain (names_in (tables_in version entries))
main_first version next entries oldest newest has = elim (cases_eq version 1) [
  | inl one ↦ ap (λ (v : ℕ). slice_get (names_in (tables_in v entries)) 0) one
  | inr other ↦
      let two : version ≡ 2 = omega (arith, oldest, newest, other) in
      ap (λ (v : ℕ). slice_get (names_in (tables_in v entries)) 0) two ∙ first_of (tables_used entries) (has two).1.main
]
  where
    first_of : (tables : List TableEntry) → IsMain (slice_get tables 0) → slice_get (names_in tables) 0 ≡ Some (codes "main")
    first_of [] main = absurd main
    first_of (table ∷ tables) main = ap Some main.0

pub returns-clause-main : goal.returns-clause-main
returns-clause-main g c =
    let front = c.in-Some.front in
    let says = c.in-Some.ensures.says in
    let oldest : 1 ≤ c.in-Some.front.version = omega (arith, says.has_mark.some, says.version) in
    let newest : c.in-Some.front.version ≤ 2 = omega (arith, says.has_mark.known, says.version) in
    subst BeginsWithMain (sym c.of.ensures) (main_first front.version front.next_page front.entries oldest newest (c.has_tables.ensures.0 c.if-not-has_tables.false))
