use Rattle.std.proofs.Common.{◌≡◌, ◌≢◌, ℕ, ◌∷◌, ◌++◌, [], List, refl, sym, subst, ◌∙◌}
use Rattle.record_slots.specs.Text.{IsName}
use Rattle.history.specs.Key.{main_name}
use Rattle.history.proofs.Keys.{name_decides}
use Rattle.script_text.proofs.Naming.{name_is_word}
use Rattle.script_text.proofs.Words.{no_space, first_space}
use Rattle.dump_text.proofs.Lines.{stripped}
use Rattle.dump_text.proofs.record.read_table.Goals as goal

pub returns-in_default-split_word : goal.returns-in_default-split_word
returns-in_default-split_word c =
    let at = stripped (64 ∷ []) c.args.words.now c.in-Some.named.now c.in-Some.ensures.cases.0 c.in-Some.ensures.cases.1 in
    (refl, (c.in-Some.named.now, at, λ table rest proper other e. no_space _ table rest c.in_default-split_word.ensures e))

pub returns-in_default-of : goal.returns-in_default-of
returns-in_default-of c =
    let at = stripped (64 ∷ []) c.args.words.now c.in-Some.named.now c.in-Some.ensures.cases.0 c.in-Some.ensures.cases.1 in
    let split = c.in-Some-split_word.ensures in (
      refl,
      (
        c.in-Some.named.now,
        at,
        λ table rest proper other e.
            let both = first_space c.in-Some-split_word.text.now table c.in-Some-split_word.words.now rest split.0 (name_is_word table proper) (sym split.1 ∙ e) in
            c.in_default-of.ensures (subst IsName (sym both.0) proper),
      ),
    )

pub returns-then-eq : goal.returns-then-eq
returns-then-eq c =
    let at = stripped (64 ∷ []) c.args.words.now c.in-Some.named.now c.in-Some.ensures.cases.0 c.in-Some.ensures.cases.1 in
    let split = c.in-Some-split_word.ensures in
    let main : c.in-Some-split_word.text.now ≡ main_name =
    sym c.in-Some-of.ensures.1 ∙ sym c.as_bytes.ensures.text ∙ (name_decides c.as_bytes.result.now c.as_bytes-2.result.now).0 (sym c.eq.ensures ∙ c.if-eq.true) ∙ c.as_bytes-2.ensures.text ∙ c.main_table-main.ensures in (
      refl,
      (
        c.in-Some.named.now,
        at,
        λ table rest proper other e.
            let both = first_space c.in-Some-split_word.text.now table c.in-Some-split_word.words.now rest split.0 (name_is_word table proper) (sym split.1 ∙ e) in
            other (sym both.0 ∙ main),
      ),
    )
