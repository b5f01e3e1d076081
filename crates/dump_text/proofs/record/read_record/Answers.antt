use Rattle.std.proofs.Common.{◌≡◌, ℕ, ◌∷◌, ◌++◌, List, refl, sym, subst, ap, ◌∙◌}
use Rattle.std.specs.Prelude.{codes}
use Rattle.std.specs.Fmt.{decimal}
use Rattle.record_slots.specs.Text.{IsValue}
use Rattle.script_text.proofs.Fields.{same_long_fields}
use Rattle.script_text.proofs.Numbers.{decimal_is_word}
use Rattle.script_text.proofs.Words.{no_space, first_space}
use Rattle.dump_text.specs.Causes.{IsNoRecord, IsShort}
use Rattle.dump_text.specs.declared.fault.LineFault.{LineFault}
use Rattle.dump_text.proofs.Lines.{stripped, said_behind, one_table, words_of, no_table, no_key}
use Rattle.dump_text.proofs.record.read_record.Goals as goal

pub returns-in-Err : goal.returns-in-Err
returns-in-Err c =
    let line = c.args.line.now in
    let split = stripped (codes "rec ") line c.in-Some.words.now c.in-Some.ensures.cases.0 c.in-Some.ensures.cases.1 in
    subst (λ (fault : LineFault). IsNoRecord line × IsShort line fault) (sym c.in-Err.ensures.0) (no_table line c.in-Some.words.now split c.in-Err.ensures.1)

pub returns-in_default-split_word : goal.returns-in_default-split_word
returns-in_default-split_word c =
    let split = stripped (codes "rec ") c.args.line.now c.in-Some.words.now c.in-Some.ensures.cases.0 c.in-Some.ensures.cases.1 in
    no_key c.args.line.now c.in-Some.words.now c.in-Ok.named.0 c.in-Ok.named.1.now split c.in-Ok.ensures (λ key more fits e. no_space c.in-Ok.named.1.now (decimal key) more c.in_default-split_word.ensures e)

pub returns-in_default-read_u64 : goal.returns-in_default-read_u64
returns-in_default-read_u64 c =
    let split = stripped (codes "rec ") c.args.line.now c.in-Some.words.now c.in-Some.ensures.cases.0 c.in-Some.ensures.cases.1 in
    let word = c.in-Some-split_word.ensures in
    no_key c.args.line.now c.in-Some.words.now c.in-Ok.named.0 c.in-Ok.named.1.now split c.in-Ok.ensures (λ key more fits e.
    c.in_default-read_u64.ensures key fits (first_space c.in-Some-split_word.digits.now (decimal key) c.in-Some-split_word.text.now more word.0 (decimal_is_word key fits) (sym word.1 ∙ e)).0)

pub returns-in-Some-of : goal.returns-in-Some-of
returns-in-Some-of c =
    let split = stripped (codes "rec ") c.args.line.now c.in-Some.words.now c.in-Some.ensures.cases.0 c.in-Some.ensures.cases.1 in
    let word = c.in-Some-split_word.ensures in
    let said : c.in-Ok.named.1.now ≡ decimal c.in-Some-read_u64.key ++ 32 ∷ c.in-Some-split_word.text.now = word.1 ∙ ap (λ (l : List ℕ). l ++ 32 ∷ c.in-Some-split_word.text.now) c.in-Some-read_u64.ensures.1 in (
      record { table = c.in-Ok.ensures.name; key = c.in-Some-read_u64.ensures.0; value = subst IsValue (sym c.in-Some-of.ensures.1) c.in-Some-of.ensures.0 },
      words_of c.args.line.now c.in-Some.words.now c.in-Ok.named.0 c.in-Ok.named.1.now c.in-Some-split_word.text.now c.in-Some-read_u64.key c.in-Some-of.value split c.in-Ok.ensures said c.in-Some-of.ensures.1,
    )

pub returns-in-None : goal.returns-in-None
returns-in-None c =
    let line = c.args.line.now in
    let text = c.in-Some-split_word.text.now in
    let split = stripped (codes "rec ") line c.in-Some.words.now c.in-Some.ensures.cases.0 c.in-Some.ensures.cases.1 in
    let word = c.in-Some-split_word.ensures in
    let said : c.in-Ok.named.1.now ≡ decimal c.in-Some-read_u64.key ++ 32 ∷ text = word.1 ∙ ap (λ (l : List ℕ). l ++ 32 ∷ text) c.in-Some-read_u64.ensures.1 in (
      (λ entry proper e.
          let both = one_table c.in-Some.words.now c.in-Ok.named.0 c.in-Ok.named.1.now entry c.in-Ok.ensures proper (said_behind line c.in-Some.words.now entry split e) in
          let same = same_long_fields c.in-Ok.named.1.now text entry.1 c.in-Some-read_u64.key entry.0.key c.in-Some-read_u64.ensures.0 proper.key said both.1 in
          c.in-None.ensures (subst IsValue (sym same.1) proper.value)),
      (record { table = c.in-Ok.named.0; key = c.in-Some-read_u64.key }, text, words_of line c.in-Some.words.now c.in-Ok.named.0 c.in-Ok.named.1.now text c.in-Some-read_u64.key text split c.in-Ok.ensures said refl, c.in-None.ensures),
    )
