use Rattle.std.proofs.Common.{ℕ, List, refl, ◌∙◌, ap, subst}
use Rattle.eaw_device.specs.Sound.{view_of}
use Rattle.record_table.specs.Names.{names_of}
use Rattle.record_table.specs.Shown.{table_of}
use Rattle.record_table.specs.Upgrading.{upgraded}
use Rattle.caller_steps.specs.Room.{Limits}
use Rattle.caller_steps.specs.State.{opened}
use Rattle.mars_core.specs.Over.{limits_of, index_of}
use Rattle.open_records.specs.declared.opening.OpenFault.TheVariants.{Callers}
use Rattle.open_records.proofs.Causing.{unsound}
use Rattle.open_records.proofs.Keeping.{holds_array, kept_records, kept_unopened, still, alone, untaken, given_back}
use Rattle.open_records.proofs.opening.open.Goals as goal

pub returns-in-Ok-attach-clause-array : goal.returns-in-Ok-attach-clause-array
returns-in-Ok-attach-clause-array g c told =
    let store = c.in-Ok-attach_late.store in
    let view = view_of (g.M.Media.view store.media) store.shape store.logs.items store.late store.is_dead in
    let attached = c.in-Ok-attach_late.ensures.opens in
    let begins = c.in-Ok-attach.ensures.begins in
    let index = g.K.KeyIndex.index in
    record {
      shape = view.shape;
      array = holds_array g.M.Media.tells told (g.M.Media.view c.args.media) view attached;
      begins = record {
        limits = begins.over.limits ∙ (λ i. limits_of index (begins.shape i) ((begins.depth ∙ c.in-Ok-attach_late.ensures.limit) i));
        state = begins.state told ∙ ap (λ (b : List ℕ). opened (names_of b) (table_of index b) (index_of index (upgraded b))) (attached.bytes told);
        sound = subst (λ (b : List ℕ). index.sound b) (attached.bytes told) (begins.sound told);
      };
    }

pub returns-in-Ok-attach-clause-opened : goal.returns-in-Ok-attach-clause-opened
returns-in-Ok-attach-clause-opened g c told shape bytes opens =
    let found = c.in-Ok-attach_late.ensures.found told shape bytes opens in
    let begins = c.in-Ok-attach.ensures.begins in
    let index = g.K.KeyIndex.index in
    record {
      limits = begins.over.limits ∙ (λ i. limits_of index ((begins.shape ∙ found.0) i) ((begins.depth ∙ c.in-Ok-attach_late.ensures.limit) i));
      state = begins.state told ∙ ap (λ (b : List ℕ). opened (names_of b) (table_of index b) (index_of index (upgraded b))) found.1;
      sound = subst (λ (b : List ℕ). index.sound b) found.1 (begins.sound told);
    }

pub returns-in-Ok-attach-clause-depth : goal.returns-in-Ok-attach-clause-depth
returns-in-Ok-attach-clause-depth g c =
    let begins = c.in-Ok-attach.ensures.begins in
    ap (λ (limits : Limits). limits.depth) begins.over.limits ∙ begins.depth ∙ c.in-Ok-attach_late.ensures.limit

pub returns-in-Ok-attach-clause-device : goal.returns-in-Ok-attach-clause-device
returns-in-Ok-attach-clause-device g c = c.in-Ok-attach.ensures.begins.mirrors.device ∙ c.in-Ok-attach_late.ensures.opens.device

pub returns-in-Ok-attach-clause-time : goal.returns-in-Ok-attach-clause-time
returns-in-Ok-attach-clause-time g c told shape all =
    let store = c.in-Ok-attach_late.store in
    let view = view_of (g.M.Media.view store.media) store.shape store.logs.items store.late store.is_dead in
    let begins = c.in-Ok-attach.ensures.begins in
    kept_records g.M.Media.tells told (g.M.Media.view c.args.media) view c.in-Ok-attach_late.ensures.opens _ _ _ _ begins.over.moment begins.over.left c.in-Ok-attach_late.ensures.keeps (begins.time told) told shape all

pub returns-in-Err-clause-keeps : goal.returns-in-Err-clause-keeps
returns-in-Err-clause-keeps g c = kept_unopened g.M.Media.tells (g.M.Media.view c.args.media) (g.M.Media.view c.in-Err.media) c.in-Err.fault c.in-Err.ensures.keeps_on_err

-- the array has too few numbers: its store is as it was opened
pub returns-then-callers-numbers-clause-gives_back : goal.returns-then-callers-numbers-clause-gives_back
returns-then-callers-numbers-clause-gives_back g c told =
    let store = c.in-Ok-attach_late.store in
    let view = view_of (g.M.Media.view store.media) store.shape store.logs.items store.late store.is_dead in
    let attached = c.in-Ok-attach_late.ensures.opens in
    still g.M.Media.tells told (g.M.Media.view c.args.media) view attached _ view (g.M.Media.view c.into_media.result) c.into_media.ensures.behind c.in-Ok-attach_late.ensures.keeps refl attached.alive refl

pub returns-then-callers-numbers-clause-keeps : goal.returns-then-callers-numbers-clause-keeps
returns-then-callers-numbers-clause-keeps g c told =
    let store = c.in-Ok-attach_late.store in
    let view = view_of (g.M.Media.view store.media) store.shape store.logs.items store.late store.is_dead in
    alone g.M.Media.tells told (g.M.Media.view c.args.media) view c.in-Ok-attach_late.ensures.opens _ view (g.M.Media.view c.into_media.result) c.into_media.ensures.behind c.in-Ok-attach_late.ensures.keeps refl (Callers store.shape.numbers)
    (λ shape image opens. opens) told

-- its records were not taken
pub returns-in-Err-attach-clause-gives_back : goal.returns-in-Err-attach-clause-gives_back
returns-in-Err-attach-clause-gives_back g c =
    let store = c.in-Ok-attach_late.store in
    let view = view_of (g.M.Media.view store.media) store.shape store.logs.items store.late store.is_dead in
    let given = c.in-Err-attach.store in
    let later = view_of (g.M.Media.view given.media) given.shape given.logs.items given.late given.is_dead in
    given_back g.M.Media.tells _ (g.M.Media.view c.args.media) (g.M.Media.view c.into_media-in-Err-attach.result) view later c.in-Ok-attach_late.ensures.opens c.into_media-in-Err-attach.ensures.behind c.in-Ok-attach_late.ensures.keeps
    c.in-Err-attach.fault c.in-Err-attach.ensures.gives_back

pub returns-in-Err-attach-clause-keeps : goal.returns-in-Err-attach-clause-keeps
returns-in-Err-attach-clause-keeps g c told =
    let store = c.in-Ok-attach_late.store in
    let view = view_of (g.M.Media.view store.media) store.shape store.logs.items store.late store.is_dead in
    let given = c.in-Err-attach.store in
    let later = view_of (g.M.Media.view given.media) given.shape given.logs.items given.late given.is_dead in
    untaken g.M.Media.tells told (g.M.Media.view c.args.media) view c.in-Ok-attach_late.ensures.opens _ later (g.M.Media.view c.into_media-in-Err-attach.result) c.into_media-in-Err-attach.ensures.behind c.in-Ok-attach_late.ensures.keeps c.in-Err-attach.fault
    c.in-Err-attach.ensures.gives_back told

pub returns-in-Err-attach-clause-cause : goal.returns-in-Err-attach-clause-cause
returns-in-Err-attach-clause-cause g c told shape bytes opens =
    let store = c.in-Ok-attach_late.store in
    unsound g.M.Media.tells g.K.KeyIndex.index (view_of (g.M.Media.view store.media) store.shape store.logs.items store.late store.is_dead) shape bytes c.in-Err-attach.fault told
    (c.in-Ok-attach_late.ensures.found told shape bytes opens).1 c.in-Err-attach.ensures.cause
