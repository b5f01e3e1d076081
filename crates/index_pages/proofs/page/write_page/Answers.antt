use Rattle.std.proofs.Common.{◌≡◌, ℕ, ◌+◌, ◌-◌, ◌*◌, List, ◌++◌, length, take, drop, replicate, slice_index_or, sym, ◌∙◌, ap, arith}
use Rattle.std.proofs.lemmas.List.{drop-replicate, take_all}
use Rattle.mars_base.specs.Bytes.{put}
use Rattle.page_store.specs.Pairs.{Pair}
use Rattle.index_pages.specs.Written.{front_bytes, pairs_bytes, pair_bytes, written_page}
use Rattle.index_pages.proofs.Writing.{no_pairs_bytes, length-front, pair_written}
use Rattle.index_pages.proofs.page.write_page.Goals as goal

pub loop-i-init : goal.loop-i-init
loop-i-init c =
    let front = c.copy_from_slice.ensures.after ∙ c.front_of.ensures in
    let zeros = c.fill.ensures.after (λ y same. same) ∙ ap (λ (n : ℕ). replicate n 0) c.told-out in
    (λ j. front j ++ drop 8 (zeros j)) ∙ ap (λ (l : List ℕ). front_bytes c.args.level (length c.args.pairs.now) c.args.link ++ l) (drop-replicate 8 512 0 ∙ ap (λ (l : List ℕ). l ++ replicate 504 0) (sym no_pairs_bytes))

pub loop-i-preserved : goal.loop-i-preserved
loop-i-preserved c =
    c.put_pair.ensures ∙ ap (λ (l : List ℕ). put l (8 + 16 * c.loop-i.i) (pair_bytes (slice_index_or c.args.pairs.now c.loop-i.i (0, 0)))) c.loop-i.invariant
    ∙ pair_written (front_bytes c.args.level (length c.args.pairs.now) c.args.link) c.args.pairs.now c.loop-i.i (0, 0) (length-front c.args.level (length c.args.pairs.now) c.args.link) c.loop-i-test.true c.requires

pub returns : goal.returns
unfolding written_page
returns c =
    let all : c.loop-i.i ≡ length c.args.pairs.now = omega arith in
    c.loop-i.invariant
    ∙ ap (λ (n : ℕ). front_bytes c.args.level (length c.args.pairs.now) c.args.link ++ (pairs_bytes (take n c.args.pairs.now) ++ replicate (504 - 16 * n) 0)) all
    ∙ ap (λ (l : List Pair). front_bytes c.args.level (length c.args.pairs.now) c.args.link ++ (pairs_bytes l ++ replicate (504 - 16 * length c.args.pairs.now) 0)) (take_all (length c.args.pairs.now) c.args.pairs.now (omega arith))
