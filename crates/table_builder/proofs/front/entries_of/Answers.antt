use Rattle.std.proofs.Common.{ℕ, List, ◌≡◌, ◌∙◌, ◌+◌, ◌-◌, ◌*◌, ◌≤◌, ◌++◌, length, drop, take, ap, sym, arith}
use Rattle.std.proofs.lemmas.List.{append-nil}
use Rattle.record_slots.specs.Super.{entry_bytes}
use Rattle.table_builder.specs.Plan.{entries_bytes, entries_for, entries_from}
use Rattle.table_builder.proofs.Pieces.{entries_more, entries_past, more_behind, more_in, more_long, pieces_done}
use Rattle.table_builder.proofs.front.entries_of.Goals as goal

pub loop-j-preserved : goal.loop-j-preserved
loop-j-preserved c =
    let j = c.loop-j.j in
    let tables = c.args.tables.now in
    let rest = entries_bytes (entries_from (1 + (c.loop-j.j + 1)) (drop (c.loop-j.j + 1) c.args.tables.now)) in
    let bytes = entry_bytes (record { name = c.index-tables-j.result.0; root = 1 + c.loop-j.j }) in
    let all = entries_bytes (entries_from 1 c.args.tables.now) in
    let size : 32 * c.loop-j.j + 32 - 32 * c.loop-j.j ≡ 32 = omega arith in
    let far : 32 * (c.loop-j.j + 1) ≡ 32 * c.loop-j.j + 32 = omega arith in
    let inside : 32 * c.loop-j.j ≤ length c.loop-j.entries = omega (arith, c.loop-j-test.true, c.requires, c.loop-j.invariant.long) in
    let long : length c.copy_from_slice.new.self ≡ 32 = ap length c.copy_from_slice.ensures.after ∙ c.entry_of.ensures.size in
    let more = entries_more c.args.tables.now c.loop-j.j c.index-tables-j.result c.loop-j-test.true c.index-tables-j.is in
    let before : take (32 * c.loop-j.j) c.loop-j.entries ++ (bytes ++ rest) ≡ all = ap (λ (l : List ℕ). take (32 * c.loop-j.j) c.loop-j.entries ++ l) (sym more) ∙ c.loop-j.invariant.all in
    record {
      long = more_long 32 256 (32 * c.loop-j.j) (32 * (c.loop-j.j + 1)) (32 * c.loop-j.j + 32 - 32 * c.loop-j.j) c.loop-j.entries c.copy_from_slice.new.self bytes rest all far inside long size
          (omega (arith, c.loop-j-test.true, c.requires, c.loop-j.invariant.long)) ∙ c.loop-j.invariant.long;
      all = more_in 32 256 (32 * c.loop-j.j) (32 * (c.loop-j.j + 1)) (32 * c.loop-j.j + 32 - 32 * c.loop-j.j) c.loop-j.entries c.copy_from_slice.new.self bytes rest all far inside long size
          (c.copy_from_slice.ensures.after ∙ c.entry_of.ensures.bytes) before;
      rest = more_behind 32 256 (32 * c.loop-j.j) (32 * (c.loop-j.j + 1)) (32 * c.loop-j.j + 32 - 32 * c.loop-j.j) c.loop-j.entries c.copy_from_slice.new.self bytes rest all far inside long size c.loop-j.invariant.rest;
    }

pub returns : goal.returns
unfolding entries_for
returns c =
    let past : length c.args.tables.now ≤ c.loop-j.j = omega (arith, c.loop-j-test.false) in
    let all : take (32 * c.loop-j.j) c.loop-j.entries ≡ entries_bytes (entries_from 1 c.args.tables.now) =
    sym (append-nil (take (32 * c.loop-j.j) c.loop-j.entries)) ∙ ap (λ (l : List ℕ). take (32 * c.loop-j.j) c.loop-j.entries ++ l) (sym (entries_past c.args.tables.now c.loop-j.j past)) ∙ c.loop-j.invariant.all in
    pieces_done 256 (32 * c.loop-j.j) c.loop-j.entries (entries_bytes (entries_from 1 c.args.tables.now)) c.loop-j.invariant.long (omega (arith, c.loop-j.auto.j-end, c.requires)) all c.loop-j.invariant.rest
