-- What a medium over a file shows.
use Rattle.std.specs.Prelude.{ℕ, ◌+◌, nat_le, if◌then◌else◌, [], length}
use Rattle.pcm_media.specs.Images.{Content, no_content}
use Rattle.pcm_media.specs.View.{View}
use Rattle.media_file.specs.declared.calls.Calls as calls
use Rattle.media_file.specs.declared.file_media.FileMedia.{FileMedia}
use Rattle.media_file.specs.Past.{Past, padded, held, LeftSince}

-- its length; what the past of its file makes of the first content; its moment; what its file might have left; its faults
abbrev pub view_over : Past → ℕ → ℕ → ℕ → View
view_over past size moment faults = record { size = size; content = held past; moment = moment; left_since = LeftSince past; faults = faults; device = no_content }

-- the content at the opening: a file that is long enough is as it was, another is extended with zeros, and settled
abbrev pub opened : ℕ → Content → Content
opened least first = if nat_le least (length first.bytes) then first else record { bytes = padded least first.bytes; unsettled = [] }

module _ {C : Type 0} {g : calls.Ghosts C} where
  -- it counts its own calls that failed, and those of the file
  abbrev pub shown : FileMedia C g → View
  shown media = view_over (g.past media.calls) media.size media.moment (media.faults + (g.faults media.calls).failed)

  abbrev pub calls_of : FileMedia C g → C
  calls_of media = media.calls
