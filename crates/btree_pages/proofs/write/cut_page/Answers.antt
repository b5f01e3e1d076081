use Rattle.std.proofs.Common.{◌≡◌, ◌+◌, ◌<◌, ℕ, List, [], ◌∷◌, get_or, take, drop, ◌∙◌, ap, subst, arith}
use Rattle.array_shape.specs.Logged.{Part}
use Rattle.page_store.specs.Pairs.{Pair, inserted}
use Rattle.eaw_face.specs.StoreView.{log_len}
use Rattle.page_store.specs.Runs.{Runs, acting_of}
use Rattle.page_store.specs.Shown.{pages_of, address}
use Rattle.index_pages.specs.Acts.{Acts}
use Rattle.index_pages.proofs.Halved.{get_key}
use Rattle.index_pages.specs.Keys.{key_at}
use Rattle.index_pages.specs.Written.{written_page}
use Rattle.btree_pages.specs.Writes.{cut_for, cutting_parts}
use Rattle.index_pages.proofs.Parting.{all_behind, same_part, same_four, page_there, part_in}
use Rattle.array_shape.specs.Places.{page_count}
use Rattle.btree_pages.proofs.write.cut_page.Goals as goal

pub returns-clause-acts : goal.returns-clause-acts
returns-clause-acts g c =
    let T = g.S.EawStore.tells in
    let V = g.S.EawStore.view in
    let O = g.S.EawStore.opens (V c.args.pages.now.store).shape in
    let v0 = pages_of (V c.args.pages.now.store) c.args.pages.now in
    let v1 = pages_of (V c.act_all.new.pages.store) c.act_all.new.pages in
    let taken = c.args.taken.now in
    let node = c.args.node.now in
    let lower : c.whole_page.result.bytes.now ≡ written_page node.level 0 (take (cut_for node.level node.pairs.items c.args.key) node.pairs.items) =
    c.whole_page.ensures.bytes ∙ c.write_page.ensures ∙ (λ i. written_page c.args.node.now.level 0 (take (c.cut_of-cut.ensures.cut i) (c.as_slice-pairs.ensures.value i))) in
    let upper : c.whole_page-2.result.bytes.now ≡ written_page node.level 0 (drop (cut_for node.level node.pairs.items c.args.key) node.pairs.items) =
    c.whole_page-2.ensures.bytes ∙ c.write_page-2.ensures ∙ ap (λ (ps : List Pair). written_page c.args.node.now.level 0 ps) (all_behind c.as_slice-pairs.result.now c.cut_of-cut.result) ∙ (λ i. written_page c.args.node.now.level 0 (drop (c.cut_of-cut.ensures.cut i) (c.as_slice-pairs.ensures.value i))) in
    let first = (λ i. (get_or (c.as_slice-pairs.ensures.value i) (c.cut_of-cut.ensures.cut i) (0, 0)).0) ∙ get_key c.args.node.now.pairs.items (cut_for c.args.node.now.level c.args.node.now.pairs.items c.args.key) in
    let named : c.whole_page-3.result.bytes.now ≡ written_page (node.level + 1) 0 (inserted c.args.parent.pairs.items (key_at node.pairs.items (cut_for node.level node.pairs.items c.args.key)) taken.number) =
    c.whole_page-3.ensures.bytes ∙ c.write_page-3.ensures ∙ ap (λ (ps : List Pair). written_page (node.level + 1) 0 ps) (c.as_slice.ensures.value ∙ c.with_pair-above.ensures ∙ ap (λ (k : ℕ). inserted c.args.parent.pairs.items k taken.number) first) in
    let counts = c.front_part.ensures.bytes ∙ c.write_super_part.ensures in
    subst (λ (ps : List ℕ). Acts T O c.args.tid ps (cutting_parts taken.front node.page node.level node.pairs.items c.args.key taken.number c.args.parent.page c.args.parent.pairs.items) v0 v1 c.act_all.result)
    (same_four _ _ _ _ _ _ _ _ c.whole_page.ensures.page c.whole_page-2.ensures.page c.whole_page-3.ensures.page c.front_part.ensures.page)
    (subst (λ (l : List Part). Acts T O c.args.tid (c.whole_page.result.page ∷ c.whole_page-2.result.page ∷ c.whole_page-3.result.page ∷ c.front_part.result.page ∷ []) l v0 v1 c.act_all.result)
    (same_four _ _ _ _ _ _ _ _
    (same_part _ _ _ _ _ _ c.whole_page.ensures.page c.whole_page.ensures.at lower)
    (same_part _ _ _ _ _ _ c.whole_page-2.ensures.page c.whole_page-2.ensures.at upper)
    (same_part _ _ _ _ _ _ c.whole_page-3.ensures.page c.whole_page-3.ensures.at named)
    (same_part _ _ _ _ _ _ c.front_part.ensures.page c.front_part.ensures.at counts))
    c.act_all.ensures.acts)

pub returns-clause-runs : goal.returns-clause-runs
returns-clause-runs g c =
    let T = g.S.EawStore.tells in
    let V = g.S.EawStore.view in
    let v0 = pages_of (V c.args.pages.now.store) c.args.pages.now in
    let v1 = pages_of (V c.act_all.new.pages.store) c.act_all.new.pages in
    let taken = c.args.taken.now in
    let node = c.args.node.now in
    let lower : c.whole_page.result.bytes.now ≡ written_page node.level 0 (take (cut_for node.level node.pairs.items c.args.key) node.pairs.items) =
    c.whole_page.ensures.bytes ∙ c.write_page.ensures ∙ (λ i. written_page c.args.node.now.level 0 (take (c.cut_of-cut.ensures.cut i) (c.as_slice-pairs.ensures.value i))) in
    let upper : c.whole_page-2.result.bytes.now ≡ written_page node.level 0 (drop (cut_for node.level node.pairs.items c.args.key) node.pairs.items) =
    c.whole_page-2.ensures.bytes ∙ c.write_page-2.ensures ∙ ap (λ (ps : List Pair). written_page c.args.node.now.level 0 ps) (all_behind c.as_slice-pairs.result.now c.cut_of-cut.result) ∙ (λ i. written_page c.args.node.now.level 0 (drop (c.cut_of-cut.ensures.cut i) (c.as_slice-pairs.ensures.value i))) in
    let first = (λ i. (get_or (c.as_slice-pairs.ensures.value i) (c.cut_of-cut.ensures.cut i) (0, 0)).0) ∙ get_key c.args.node.now.pairs.items (cut_for c.args.node.now.level c.args.node.now.pairs.items c.args.key) in
    let named : c.whole_page-3.result.bytes.now ≡ written_page (node.level + 1) 0 (inserted c.args.parent.pairs.items (key_at node.pairs.items (cut_for node.level node.pairs.items c.args.key)) taken.number) =
    c.whole_page-3.ensures.bytes ∙ c.write_page-3.ensures ∙ ap (λ (ps : List Pair). written_page (node.level + 1) 0 ps) (c.as_slice.ensures.value ∙ c.with_pair-above.ensures ∙ ap (λ (k : ℕ). inserted c.args.parent.pairs.items k taken.number) first) in
    let counts = c.front_part.ensures.bytes ∙ c.write_super_part.ensures in
    subst (λ (l : List Part). Runs T V g.S.EawStore.calls (acting_of c.args.tid (log_len v0.store c.args.tid) l) v0.store v1.store c.act_all.result) (λ i.
    (address (c.whole_page.ensures.page i) (c.whole_page.ensures.at i), lower i) ∷ (address (c.whole_page-2.ensures.page i) (c.whole_page-2.ensures.at i), upper i)
    ∷ (address (c.whole_page-3.ensures.page i) (c.whole_page-3.ensures.at i), named i) ∷ (address (c.front_part.ensures.page i) (c.front_part.ensures.at i), counts i) ∷ []) c.act_all.ensures.runs

pub act_all-requires : goal.act_all-requires
act_all-requires g c =
    let p0 = part_in (g.S.EawStore.view c.args.pages.now.store) (c.args.node.now.page) (0) 512 c.write_page.new.out c.whole_page.result.page c.whole_page.result.at c.whole_page.result.bytes.now c.whole_page.ensures.page c.whole_page.ensures.at c.whole_page.ensures.bytes c.write_page.array_long (omega arith) (omega arith) (page_there (g.S.EawStore.view c.args.pages.now.store).shape _ c.requires.node.inside) in
    let p1 = part_in (g.S.EawStore.view c.args.pages.now.store) (c.args.taken.now.number) (0) 512 c.write_page-2.new.out c.whole_page-2.result.page c.whole_page-2.result.at c.whole_page-2.result.bytes.now c.whole_page-2.ensures.page c.whole_page-2.ensures.at c.whole_page-2.ensures.bytes c.write_page-2.array_long (omega arith) (omega arith) (page_there (g.S.EawStore.view c.args.pages.now.store).shape _ c.requires.taken) in
    let p2 = part_in (g.S.EawStore.view c.args.pages.now.store) (c.args.parent.page) (0) 512 c.write_page-3.new.out c.whole_page-3.result.page c.whole_page-3.result.at c.whole_page-3.result.bytes.now c.whole_page-3.ensures.page c.whole_page-3.ensures.at c.whole_page-3.ensures.bytes c.write_page-3.array_long (omega arith) (omega arith) (page_there (g.S.EawStore.view c.args.pages.now.store).shape _ c.requires.parent.inside) in
    let pf = part_in (g.S.EawStore.view c.args.pages.now.store) (0) (8) 280 c.write_super_part.new.out c.front_part.result.page c.front_part.result.at c.front_part.result.bytes.now c.front_part.ensures.page c.front_part.ensures.at c.front_part.ensures.bytes c.write_super_part.array_long (omega arith) (omega arith) (let some : 0 < page_count (g.S.EawStore.view c.args.pages.now.store).shape = omega (arith, c.requires.taken) in some) in
    record { tid = c.requires.tid; closed = c.requires.closed; few = omega arith; inside = (p0.0, p0.1, (p1.0, p1.1, (p2.0, p2.1, (pf.0, pf.1, tt)))) }

pub returns-clause-dead : goal.returns-clause-dead
returns-clause-dead g c = c.act_all.ensures.dead
