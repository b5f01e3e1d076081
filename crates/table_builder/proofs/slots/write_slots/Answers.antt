use Rattle.std.proofs.Common.{ℕ, List, ◌≡◌, ◌+◌, ◌-◌, ◌*◌, ◌≤◌, ◌++◌, length, drop, replicate, take, ap, sym, ◌∙◌, arith}
use Rattle.std.proofs.lemmas.List.{append-nil}
use Rattle.record_slots.specs.Slots.{slot_bytes}
use Rattle.table_builder.specs.Plan.{slots_bytes, slots_from, slots_page}
use Rattle.table_builder.proofs.Pieces.{more_behind, more_in, more_long, pieces_done, slots_beyond, slots_more, slots_past}
use Rattle.table_builder.proofs.slots.write_slots.Goals as goal

pub returns-then-k : goal.returns-then-k
returns-then-k c = c.fill.ensures.after (λ y same. same) ∙ ap (λ (n : ℕ). replicate n 0) c.told-out ∙ slots_beyond c.args.tables.now c.args.k c.requires.rows c.if-k.true

pub bytes_of-requires : goal.bytes_of-requires
bytes_of-requires c = c.in-Some.ensures.table

pub loop-j-preserved : goal.loop-j-preserved
loop-j-preserved c =
    let slots = slots_from 0 c.args.tables.now in
    let rest = slots_bytes (take (8 - (c.loop-j.j + 1)) (drop (8 * c.args.k + (c.loop-j.j + 1)) (slots_from 0 c.args.tables.now))) in
    let bytes = slot_bytes c.in-Some.slot in
    let all = slots_bytes (take 8 (drop (8 * c.args.k) (slots_from 0 c.args.tables.now))) in
    let size : 64 * c.loop-j.j + 64 - 64 * c.loop-j.j ≡ 64 = omega arith in
    let far : 64 * (c.loop-j.j + 1) ≡ 64 * c.loop-j.j + 64 = omega arith in
    let inside : 64 * c.loop-j.j ≤ length c.loop-j.out = omega (arith, c.loop-j-test.true, c.loop-j.invariant.long) in
    let long : length c.copy_from_slice.new.self ≡ 64 = ap length c.copy_from_slice.ensures.after ∙ c.bytes_of.ensures.size in
    let more = slots_more (slots_from 0 c.args.tables.now) (8 * c.args.k) c.loop-j.j c.in-Some.slot c.loop-j-test.true (sym c.in-Some.ensures.slot) in
    let before : take (64 * c.loop-j.j) c.loop-j.out ++ (bytes ++ rest) ≡ all = ap (λ (l : List ℕ). take (64 * c.loop-j.j) c.loop-j.out ++ l) (sym more) ∙ c.loop-j.invariant.all in
    record {
      long = more_long 64 512 (64 * c.loop-j.j) (64 * (c.loop-j.j + 1)) (64 * c.loop-j.j + 64 - 64 * c.loop-j.j) c.loop-j.out c.copy_from_slice.new.self bytes rest all far inside long size
          (omega (arith, c.loop-j-test.true, c.loop-j.invariant.long)) ∙ c.loop-j.invariant.long;
      all = more_in 64 512 (64 * c.loop-j.j) (64 * (c.loop-j.j + 1)) (64 * c.loop-j.j + 64 - 64 * c.loop-j.j) c.loop-j.out c.copy_from_slice.new.self bytes rest all far inside long size
          (c.copy_from_slice.ensures.after ∙ c.bytes_of.ensures.bytes) before;
      rest = more_behind 64 512 (64 * c.loop-j.j) (64 * (c.loop-j.j + 1)) (64 * c.loop-j.j + 64 - 64 * c.loop-j.j) c.loop-j.out c.copy_from_slice.new.self bytes rest all far inside long size c.loop-j.invariant.rest;
    }

pub returns-in_default : goal.returns-in_default
unfolding slots_page
returns-in_default c =
    let past = slots_past (slots_from 0 c.args.tables.now) (8 * c.args.k + c.loop-j.j) (8 - c.loop-j.j) (sym c.in_default.ensures.slot) in
    let all : take (64 * c.loop-j.j) c.loop-j.out ≡ slots_bytes (take 8 (drop (8 * c.args.k) (slots_from 0 c.args.tables.now))) =
    sym (append-nil (take (64 * c.loop-j.j) c.loop-j.out)) ∙ ap (λ (l : List ℕ). take (64 * c.loop-j.j) c.loop-j.out ++ l) (sym past) ∙ c.loop-j.invariant.all in
    pieces_done 512 (64 * c.loop-j.j) c.loop-j.out (slots_bytes (take 8 (drop (8 * c.args.k) (slots_from 0 c.args.tables.now)))) c.loop-j.invariant.long (omega (arith, c.loop-j-test.true)) all c.loop-j.invariant.rest

pub returns : goal.returns
unfolding slots_page
returns c =
    let none : 0 ≡ 8 - c.loop-j.j = omega (arith, c.loop-j-test.false) in
    let all : take (64 * c.loop-j.j) c.loop-j.out ≡ slots_bytes (take 8 (drop (8 * c.args.k) (slots_from 0 c.args.tables.now))) =
    sym (append-nil (take (64 * c.loop-j.j) c.loop-j.out))
    ∙ ap (λ (n : ℕ). take (64 * c.loop-j.j) c.loop-j.out ++ slots_bytes (take n (drop (8 * c.args.k + c.loop-j.j) (slots_from 0 c.args.tables.now)))) none ∙ c.loop-j.invariant.all in
    pieces_done 512 (64 * c.loop-j.j) c.loop-j.out (slots_bytes (take 8 (drop (8 * c.args.k) (slots_from 0 c.args.tables.now)))) c.loop-j.invariant.long (omega (arith, c.loop-j.auto.j-end)) all c.loop-j.invariant.rest
