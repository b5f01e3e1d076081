-- Calls one after another that serve one call of the medium.
use Rattle.std.proofs.Common.{◌≡◌, ℕ, ◌+◌, ◌<◌, ◌≤◌, inl, inr, List, subst, arith}
use Rattle.std.proofs.lemmas.List.Elements.{All-cons}
use Rattle.pcm_media.specs.Images.{Touched}
use Rattle.pcm_media.proofs.Left.{touched_by_nothing, left_partly}
use Rattle.media_file.specs.Past.{Event, Made, Past, noted, held, AreBefore, Answers, IsHonest}
use Rattle.media_file.specs.Transfer.{Serves}

pub before_later : (now then : ℕ) (calls : List Made) → now ≤ then → AreBefore now calls → AreBefore then calls
before_later now then calls le before = λ k d lt. let was = before k d lt in omega (arith, was)

-- none yet
pub serves_none : (moment : ℕ) (ranges : List (ℕ × ℕ)) (past : Past) → AreBefore moment past.calls → Serves moment ranges past past
serves_none moment ranges past before = record {
  touched = touched_by_nothing ranges (held past);
  before = before_later moment (moment + 1) past.calls (omega arith) before;
  keeps = λ t image lt left. left;
  only = λ t image lt left. inl left;
}

-- one more
pub serves_more : (moment : ℕ) (ranges : List (ℕ × ℕ)) (old now : Past) (event : Event) → Serves moment ranges old now → Touched ranges (held old) (held (noted moment event now)) → Serves moment ranges old (noted moment event now)
serves_more moment ranges old now event s touched = record {
  touched = touched;
  before = All-cons (λ made. made.moment < moment + 1) (record { moment = moment; event = event }) now.calls (omega arith) s.before;
  keeps = λ t image lt left. elim (s.keeps t image lt left) [
    | inl here ↦ inr (inl (lt, here))
    | inr there ↦ inr (inr there)
  ];
  only = λ t image lt left. elim left [
    | inl here ↦ inr (left_partly ranges (held old) (held (noted moment event now)) touched image here)
    | inr past ↦ elim past [
      | inl here ↦ s.only t image lt (inl here.1)
      | inr there ↦ s.only t image lt (inr there)
    ]
  ];
}

-- what the last call of an honest file answered
pub honest_last : (moment : ℕ) (event : Event) (now past : Past) → past ≡ noted moment event now → IsHonest past.first past.calls → Answers event (held now)
honest_last moment event now past is honest =
    let all = subst (λ (p : Past). IsHonest p.first p.calls) is honest in
    all.0
