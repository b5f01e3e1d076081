use Rattle.std.proofs.Common.{◌≡◌, ◌+◌, ◌<◌, ℕ, List, [], ◌∷◌, get_or, take, drop, ◌∙◌, ap, subst, arith}
use Rattle.array_shape.specs.Logged.{Part}
use Rattle.array_shape.specs.Places.{page_count}
use Rattle.page_store.specs.Pairs.{Pair}
use Rattle.eaw_face.specs.StoreView.{log_len}
use Rattle.page_store.specs.Runs.{Runs, acting_of}
use Rattle.page_store.specs.Shown.{pages_of, address}
use Rattle.index_pages.specs.Acts.{Acts}
use Rattle.index_pages.proofs.Halved.{get_key}
use Rattle.index_pages.specs.Keys.{key_at}
use Rattle.index_pages.specs.Written.{written_page}
use Rattle.index_pages.proofs.Parting.{all_behind, page_there, part_in}
use Rattle.btree_pages.specs.Writes.{cut_for}
use Rattle.btree_pages.proofs.write.grow_root.Goals as goal

pub act_all-requires : goal.act_all-requires
act_all-requires g c =
    let p0 = part_in (g.S.EawStore.view c.args.pages.now.store) (c.args.left) (0) 512 c.write_page.new.out c.whole_page.result.page c.whole_page.result.at c.whole_page.result.bytes.now c.whole_page.ensures.page c.whole_page.ensures.at c.whole_page.ensures.bytes c.write_page.array_long (omega arith) (omega arith) (page_there (g.S.EawStore.view c.args.pages.now.store).shape _ c.requires.left) in
    let p1 = part_in (g.S.EawStore.view c.args.pages.now.store) (c.args.right.now.number) (0) 512 c.write_page-2.new.out c.whole_page-2.result.page c.whole_page-2.result.at c.whole_page-2.result.bytes.now c.whole_page-2.ensures.page c.whole_page-2.ensures.at c.whole_page-2.ensures.bytes c.write_page-2.array_long (omega arith) (omega arith) (page_there (g.S.EawStore.view c.args.pages.now.store).shape _ c.requires.right) in
    let p2 = part_in (g.S.EawStore.view c.args.pages.now.store) (c.args.root.now.page) (0) 512 c.write_page-3.new.out c.whole_page-3.result.page c.whole_page-3.result.at c.whole_page-3.result.bytes.now c.whole_page-3.ensures.page c.whole_page-3.ensures.at c.whole_page-3.ensures.bytes c.write_page-3.array_long (omega arith) (omega arith) (page_there (g.S.EawStore.view c.args.pages.now.store).shape _ c.requires.root.inside) in
    let pf = part_in (g.S.EawStore.view c.args.pages.now.store) (0) (8) 280 c.write_super_part.new.out c.front_part.result.page c.front_part.result.at c.front_part.result.bytes.now c.front_part.ensures.page c.front_part.ensures.at c.front_part.ensures.bytes c.write_super_part.array_long (omega arith) (omega arith) (let some : 0 < page_count (g.S.EawStore.view c.args.pages.now.store).shape = omega (arith, c.requires.left) in some) in
    record { tid = c.requires.tid; closed = c.requires.closed; few = omega arith; inside = (p0.0, p0.1, (p1.0, p1.1, (p2.0, p2.1, (pf.0, pf.1, tt)))) }

pub returns : goal.returns
returns g c =
    let V = g.S.EawStore.view in
    let O = g.S.EawStore.opens (V c.args.pages.now.store).shape in
    let v0 = pages_of (V c.args.pages.now.store) c.args.pages.now in
    let v1 = pages_of (V c.act_all.new.pages.store) c.act_all.new.pages in
    let lower : c.whole_page.result.bytes.now ≡ written_page c.args.root.now.level 0 (take (cut_for c.args.root.now.level c.args.root.now.pairs.items c.args.key) c.args.root.now.pairs.items) =
    c.whole_page.ensures.bytes ∙ c.write_page.ensures ∙ (λ i. written_page c.args.root.now.level 0 (take (c.cut_of-cut.ensures.cut i) (c.as_slice-pairs.ensures.value i))) in
    let upper : c.whole_page-2.result.bytes.now ≡ written_page c.args.root.now.level 0 (drop (cut_for c.args.root.now.level c.args.root.now.pairs.items c.args.key) c.args.root.now.pairs.items) =
    c.whole_page-2.ensures.bytes ∙ c.write_page-2.ensures ∙ ap (λ (ps : List Pair). written_page c.args.root.now.level 0 ps) (all_behind c.as_slice-pairs.result.now c.cut_of-cut.result) ∙ (λ i. written_page c.args.root.now.level 0 (drop (c.cut_of-cut.ensures.cut i) (c.as_slice-pairs.ensures.value i))) in
    let first = (λ i. (get_or (c.as_slice-pairs.ensures.value i) (c.cut_of-cut.ensures.cut i) (0, 0)).0) ∙ get_key c.args.root.now.pairs.items (cut_for c.args.root.now.level c.args.root.now.pairs.items c.args.key) in
    let named : c.whole_page-3.result.bytes.now ≡ written_page (c.args.root.now.level + 1) 0 ((0, c.args.left) ∷ (key_at c.args.root.now.pairs.items (cut_for c.args.root.now.level c.args.root.now.pairs.items c.args.key), c.args.right.now.number) ∷ []) =
    c.whole_page-3.ensures.bytes ∙ c.write_page-3.ensures ∙ (λ i. written_page (c.args.root.now.level + 1) 0 ((0, c.from.ensures i) ∷ (first i, c.from-2.ensures i) ∷ [])) in
    let counts = c.front_part.ensures.bytes ∙ c.write_super_part.ensures in
    record {
      acts = subst (λ (x : List ℕ × List Part). Acts g.S.EawStore.tells O c.args.tid x.0 x.1 v0 v1 c.act_all.result) (λ i. (
        c.whole_page.ensures.page i ∷ c.whole_page-2.ensures.page i ∷ c.whole_page-3.ensures.page i ∷ c.front_part.ensures.page i ∷ [],
        (address (c.whole_page.ensures.page i) (c.whole_page.ensures.at i), lower i) ∷ (address (c.whole_page-2.ensures.page i) (c.whole_page-2.ensures.at i), upper i)
            ∷ (address (c.whole_page-3.ensures.page i) (c.whole_page-3.ensures.at i), named i) ∷ (address (c.front_part.ensures.page i) (c.front_part.ensures.at i), counts i) ∷ [],
      )) c.act_all.ensures.acts;
      runs = subst (λ (l : List Part). Runs g.S.EawStore.tells V g.S.EawStore.calls (acting_of c.args.tid (log_len v0.store c.args.tid) l) v0.store v1.store c.act_all.result) (λ i.
          (address (c.whole_page.ensures.page i) (c.whole_page.ensures.at i), lower i) ∷ (address (c.whole_page-2.ensures.page i) (c.whole_page-2.ensures.at i), upper i)
          ∷ (address (c.whole_page-3.ensures.page i) (c.whole_page-3.ensures.at i), named i) ∷ (address (c.front_part.ensures.page i) (c.front_part.ensures.at i), counts i) ∷ []) c.act_all.ensures.runs;
      dead = c.act_all.ensures.dead;
    }
