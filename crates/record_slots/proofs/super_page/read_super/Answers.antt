use Rattle.std.proofs.Common.{sym, take, ◌∙◌, refl, arith}
use Rattle.std.specs.Prelude.{codes}
use Rattle.std.specs.Cmp.Lexicographic.{same_text}
use Rattle.record_slots.specs.Super.{version_said, form_said, next_said, entries_said, free_in}
use Rattle.record_slots.proofs.Front.{four_read}
use Rattle.record_slots.proofs.super_page.read_super.Goals as goal

pub returns-clause-says : goal.returns-clause-says
unfolding version_said form_said next_said entries_said free_in
returns-clause-says c =
    let b = c.args.bytes.now in
    record {
      has_mark = record { mark = sym (same_text (codes "MREC") (take 4 b) (sym c.if-not-starts_with.false ∙ c.starts_with.ensures.value)); some = omega (arith, c.if-version-eq0.false); known = omega (arith, c.if-version-gt-NEWEST.false) };
      version = refl;
      form = refl;
      next_slot = c.read_u32.ensures ∙ four_read 8 504 b (omega arith);
      next_page = c.read_u32-2.ensures ∙ four_read 12 500 b (omega arith);
      entries = c.copy_from_slice.ensures.after;
      free_slot = c.read_free.ensures;
      free_page = c.read_free-2.ensures;
      free_slots = c.read_free-3.ensures;
      free_pages = c.read_free-4.ensures;
    }

pub returns-then-version-eq0-clause-unmarked : goal.returns-then-version-eq0-clause-unmarked
unfolding version_said
returns-then-version-eq0-clause-unmarked c = λ marked. omega (arith, marked.some, c.if-version-eq0.true)

pub returns-then-version-gt-NEWEST-clause-unmarked : goal.returns-then-version-gt-NEWEST-clause-unmarked
unfolding version_said
returns-then-version-gt-NEWEST-clause-unmarked c = λ marked. omega (arith, marked.known, c.if-version-gt-NEWEST.true)
