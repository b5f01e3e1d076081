-- A medium of either kind.
use Rattle.pcm_media.specs.View.{View}
use Rattle.case_runs.specs.declared.run_media.RunMedia.{RunMedia}
use Rattle.case_runs.specs.declared.run_media.RunMedia.TheVariants.{Memory, File}

-- what the medium in it shows
abbrev pub view_of : {M F : Type 0} → (M → View) → (F → View) → RunMedia M F → View
view_of memory file (Memory media) = memory media
view_of memory file (File media) = file media

-- whether the medium in it is spent
abbrev pub spent_of : {M F : Type 0} → (M → Type 0) → (F → Type 0) → RunMedia M F → Type 0
spent_of memory file (Memory media) = memory media
spent_of memory file (File media) = file media
