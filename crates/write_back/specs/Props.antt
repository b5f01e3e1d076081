-- What waits, and what ties the entries to it, are facts that have one proof at most, so that a type may keep them.
use Rattle.std.specs.Prelude.{ℕ, ◌+◌, List, [], ◌∷◌, Bool}
use Rattle.std.specs.Coded.{×_prop, Unit-prop}
use Rattle.std.proofs.Props.{props}
use Rattle.pcm_media.specs.Images.{Content}
use Rattle.array_shape.specs.declared.shape.Shape.{Shape}
use Rattle.array_image.specs.Image.{data_of}
use Rattle.commit_queue.specs.Queue.{Commit, Each, IsVoted, IsWritten, Rise}
use Rattle.commit_queue.specs.Between.{Rests}
use Rattle.write_back.specs.declared.queue.LateCommits.{LateCommits}
use Rattle.write_back.specs.Waiting.{AreWaiting, queue_of}
use Rattle.row_bytes.specs.declared.ballot.Ballot.{Ballot}
use Rattle.coordinator.specs.declared.cells.Cells.{Cells}
use Rattle.write_back.specs.declared.entry.Entry.{Entry}
use Rattle.write_back.specs.Tied.{AreApart, AreTied, HasNamed, HaveNamed}

each-prop : (P : Commit → Type 0) → ((c : Commit) → IsProp (P c)) → (q : List Commit) → IsProp (Each P q)
each-prop P prop [] = Unit-prop
each-prop P prop (c ∷ q) = ×_prop (prop c) (each-prop P prop q)

rise-prop : (least : ℕ) (q : List Commit) → IsProp (Rise least q)
rise-prop least [] = Unit-prop
rise-prop least (c ∷ q) = Prim.hlevel (props, rise-prop (c.ballot.order + 1) q)

written-prop : (shape : Shape) (image : List ℕ) (c : Commit) → IsProp (IsWritten shape image c)
written-prop shape image c = Prim.hlevel props

voted-prop : (shape : Shape) (image : List ℕ) (c : Commit) → IsProp (IsVoted shape image c)
voted-prop shape image c = Prim.hlevel props

rests-prop : (shape : Shape) (q : List Commit) (bytes image : List ℕ) → IsProp (Rests shape q bytes image)
rests-prop shape q bytes image = Prim.hlevel (props, rise-prop 0 q, each-prop (IsWritten shape image) (written-prop shape image) q, each-prop (IsVoted shape image) (voted-prop shape image) q)

pub AreWaiting-prop : (shape : Shape) (late : LateCommits) (content : Content) → IsProp (AreWaiting shape late content)
AreWaiting-prop shape late content = λ x y i image left. rests-prop shape (queue_of shape content.bytes late) (data_of shape content.bytes) image (x image left) (y image left) i

named-prop : (shape : Shape) (cells : List Cells) (entries : ℕ → List Entry) (b : Ballot) → IsProp (HasNamed shape cells entries b)
named-prop shape cells entries b = Prim.hlevel props

all_named-prop : (shape : Shape) (cells : List Cells) (entries : ℕ → List Entry) (bs : List Ballot) → IsProp (HaveNamed shape cells entries bs)
all_named-prop shape cells entries [] = Unit-prop
all_named-prop shape cells entries (b ∷ bs) = ×_prop (named-prop shape cells entries b) (all_named-prop shape cells entries bs)

apart-prop : (bs : List Ballot) → IsProp (AreApart bs)
apart-prop [] = Unit-prop
apart-prop (b ∷ bs) = ×_prop (Prim.hlevel props) (apart-prop bs)

pub AreTied-prop : (shape : Shape) (cells : List Cells) (entries : ℕ → List Entry) (bs : List Ballot) (aside : ℕ → Bool) → IsProp (AreTied shape cells entries bs aside)
AreTied-prop shape cells entries bs aside = Prim.hlevel (props, all_named-prop shape cells entries bs, apart-prop bs)
