use Rattle.std.proofs.Common.{◌≡◌, ◌<◌, ℕ, List, [], ◌∷◌, ◌++◌, length, map, sym, ap, subst, ◌∙◌, arith, rules}
use Rattle.dump_text.specs.Dump.{record_words, count_words, IsDumpOf}
use Rattle.dump_text.proofs.Taken.{some_lines, no_lines, are_tables}
use Rattle.dump_text.proofs.reading.end.Goals as goal

pub returns-then-not-is_empty : goal.returns-then-not-is_empty
returns-then-not-is_empty c = λ text read has count lines.
    let some : 0 < length c.args.behind.now = first_of (omega arith, search rules, grind arith) in
    let behind = some_lines c.args.behind.now some in
    (read, c.args.said, behind.0, behind.1, lines ∙ ap (λ (l : List (List ℕ)). map record_words read ++ count_words c.args.said ∷ l) behind.2, has.proper, omega (arith, count))

pub returns : goal.returns
returns c = λ text read has count lines.
    let none : length c.args.behind.now ≡ 0 = first_of (search rules, omega arith, grind arith) in
    let said : c.args.said ≡ length read = omega (arith, count, c.if-said-count.false) in
    let same : c.in_ok-into_tables.field-0 ≡ c.args.gathered = c.in_ok-into_tables.ensures.same in
    let told : IsDumpOf text c.args.gathered = record {
      read = read;
      lines = lines ∙ ap (λ (l : List (List ℕ)). map record_words read ++ count_words c.args.said ∷ l) (no_lines c.args.behind.now none) ∙ ap (λ (n : ℕ). map record_words read ++ count_words n ∷ []) said;
      proper = has.proper;
      same = has.same;
      are = are_tables c.args.gathered read has (rw same at c.in_ok-into_tables.ensures.rising);
      names = has.names;
    } in
    subst (IsDumpOf text) (sym same) told
