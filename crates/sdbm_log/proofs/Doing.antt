-- Lists of calls, one after the other.
use Rattle.std.proofs.Common.{inl, inr, ⊎_elim, List, [], ◌∷◌, ◌++◌}
use Rattle.sdbm_saves.specs.Disk.{Image}
use Rattle.sdbm_saves.specs.Acts.{Act, write, resize, sync, clear, acted, seen_after, LeftBy, LeftAfter}
use Rattle.sdbm_log.specs.Doing.{AnyMoment, Does}

-- a list and the next one
pub then_does : (acts more : List Act) (seen : Image) (may_leave P : Image → Type 0) (Q R : Image → (Image → Type 0) → Type 0) → Does acts seen may_leave P Q
    → ((s : Image) (m : Image → Type 0) → Q s m → Does more s m P R) → Does (acts ++ more) seen may_leave P R
then_does [] more seen may_leave P Q R first next = next seen may_leave first.after
then_does (act ∷ acts) more seen may_leave P Q R first next =
    let rest : Does (acts ++ more) (acted act seen) (LeftBy act seen may_leave) P R = then_does acts more (acted act seen) (LeftBy act seen may_leave) P Q R
    (record { can = first.can.1; any_moment = λ c left. first.any_moment c (inr left); after = first.after }) next in
    record {
      can = (first.can.0, rest.can);
      any_moment = λ c left. ⊎_elim (λ here. first.any_moment c (inl here)) (λ later. rest.any_moment c later) left;
      after = rest.after;
    }

-- a list and the next one, which starts from the images that the first leaves
pub then_at : (acts more : List Act) (seen : Image) (may_leave P : Image → Type 0) (Q R : Image → (Image → Type 0) → Type 0) → Does acts seen may_leave P Q
    → Does more (seen_after acts seen) (LeftAfter acts seen may_leave) P R → Does (acts ++ more) seen may_leave P R
then_at [] more seen may_leave P Q R first next = next
then_at (act ∷ acts) more seen may_leave P Q R first next =
    let rest : Does (acts ++ more) (acted act seen) (LeftBy act seen may_leave) P R = then_at acts more (acted act seen) (LeftBy act seen may_leave) P Q R
    (record { can = first.can.1; any_moment = λ c left. first.any_moment c (inr left); after = first.after }) next in
    record {
      can = (first.can.0, rest.can);
      any_moment = λ c left. ⊎_elim (λ here. first.any_moment c (inl here)) (λ later. rest.any_moment c later) left;
      after = rest.after;
    }

pub weaker_does : (acts : List Act) (seen : Image) (may_leave P S : Image → Type 0) (Q R : Image → (Image → Type 0) → Type 0) → ((c : Image) → P c → S c)
    → ((s : Image) (m : Image → Type 0) → Q s m → R s m) → Does acts seen may_leave P Q → Does acts seen may_leave S R
weaker_does acts seen may_leave P S Q R more then is = record {
  can = is.can;
  any_moment = λ c left. more c (is.any_moment c left);
  after = then _ _ is.after;
}

pub nothing_does : (seen : Image) (may_leave P : Image → Type 0) (Q : Image → (Image → Type 0) → Type 0) → ((c : Image) → may_leave c → P c) → Q seen may_leave → Does [] seen may_leave P Q
nothing_does seen may_leave P Q has after = record { can = tt; any_moment = has; after = after }

-- a call leaves at least the same images if more images were left before
pub left_more : (act : Act) (seen : Image) (few many : Image → Type 0) → ((c : Image) → few c → many c) → (c : Image) → LeftBy act seen few c → LeftBy act seen many c
left_more (write file at bytes) seen few many more c left = (left.0, more left.0 left.1, left.2)
left_more (resize file len) seen few many more c left = (left.0, more left.0 left.1, left.2)
left_more (sync file) seen few many more c left = (more c left.0, left.1)
left_more clear seen few many more c left = (left.0, more left.0 left.1, left.2)

pub after_more : (acts : List Act) (seen : Image) (few many : Image → Type 0) → ((c : Image) → few c → many c) → (c : Image) → LeftAfter acts seen few c → LeftAfter acts seen many c
after_more [] seen few many more c left = more c left
after_more (act ∷ acts) seen few many more c left = after_more acts (acted act seen) (LeftBy act seen few) (LeftBy act seen many) (λ d is. left_more act seen few many more d is) c left

pub moment_more : (acts : List Act) (seen : Image) (few many : Image → Type 0) → ((c : Image) → few c → many c) → (c : Image) → AnyMoment acts seen few c → AnyMoment acts seen many c
moment_more [] seen few many more c left = more c left
moment_more (act ∷ acts) seen few many more c left = ⊎_elim
    (λ here. inl (more c here))
    (λ later. inr (moment_more acts (acted act seen) (LeftBy act seen few) (LeftBy act seen many) (λ d is. left_more act seen few many more d is) c later))
    left

-- images that may be left now, and at the end
pub moment_now : (acts : List Act) (seen : Image) (may_leave : Image → Type 0) (c : Image) → may_leave c → AnyMoment acts seen may_leave c
moment_now [] seen may_leave c left = left
moment_now (act ∷ acts) seen may_leave c left = inl left

pub moment_last : (acts : List Act) (seen : Image) (may_leave : Image → Type 0) (c : Image) → LeftAfter acts seen may_leave c → AnyMoment acts seen may_leave c
moment_last [] seen may_leave c left = left
moment_last (act ∷ acts) seen may_leave c left = inr (moment_last acts (acted act seen) (LeftBy act seen may_leave) c left)
