use Rattle.record_slots.proofs.ReadingBack.{page_says, part_says, of_two}
use Rattle.record_slots.proofs.laws.super_page_round_trip.Goals as goal

pub returns : goal.returns
returns c = record { page = λ front whole two. page_says front whole two; part = λ bytes front whole two part. part_says front (of_two front whole two) bytes part }
