-- Properties of all images that a crash may leave still hold if fewer images may be left. Also lists of calls that were made on a disk.
use Rattle.std.proofs.Common.{◌≡◌, ℕ, List, sym, subst}
use Rattle.sdbm_saves.specs.Acts.{Act, seen_after, LeftAfter}
use Rattle.sdbm_saves.specs.Disk.{Image, LeavesOnly}
use Rattle.sdbm_log.specs.Doing.{AnyMoment, Does}
use Rattle.sdbm_log.specs.Log.{IsAtRest, IsDurable, IsReady}
use Rattle.sdbm_saves.proofs.Moments.{weaker}
use Rattle.sdbm_log.proofs.Doing.{after_more, moment_more}

pub durable_fewer : (seen : Image) (few many : Image → Type 0) → ((c : Image) → few c → many c) → IsDurable seen many → IsDurable seen few
durable_fewer seen few many more durable = record { kept = λ c l. durable.kept c (more c l); now = durable.now; holds = λ c l. durable.holds c (more c l) }

pub ready_fewer : (end room count : ℕ) (seen : Image) (few many : Image → Type 0) → ((c : Image) → few c → many c) → IsReady end room count seen many → IsReady end room count seen few
ready_fewer end room count seen few many more ready = record {
  durable = durable_fewer seen few many more ready.durable;
  file = ready.file;
  long = ready.long;
  near = ready.near;
  few = ready.few;
  none = ready.none;
  grow = ready.grow;
}

pub rest_fewer : (seen : Image) (few many : Image → Type 0) → ((c : Image) → few c → many c) → IsAtRest seen many → IsAtRest seen few
rest_fewer seen few many more rest = record { unmarked = rest.unmarked; left_unmarked = λ c l. rest.left_unmarked c (more c l); kept = λ c l. rest.kept c (more c l) }

-- a list of calls, if fewer images may be left before it
pub does_fewer : (acts : List Act) (seen now : Image) (few many P : Image → Type 0) (Q : Image → (Image → Type 0) → Type 0) → now ≡ seen → ((c : Image) → few c → many c)
    → ((s : Image) (a b : Image → Type 0) → ((c : Image) → a c → b c) → Q s b → Q s a) → Does acts seen many P Q → Does acts now few P Q
does_fewer acts seen now few many P Q same more keeps is = subst (λ (o : Image). Does acts o few P Q) (sym same) (record {
  can = is.can;
  any_moment = λ c left. is.any_moment c (moment_more acts seen few many more c left);
  after = keeps (seen_after acts seen) (LeftAfter acts seen few) (LeftAfter acts seen many) (λ c left. after_more acts seen few many more c left) is.after;
})

-- a list of calls that were made has its promised outcome
module _ {D : Type 0} (moment : D → ℕ) (left_since : D → ℕ → Image → Type 0) (may_leave : D → Image → Type 0) where
  pub made : (acts : List Act) (seen : Image) (old new : D) (P : Image → Type 0) (Q : Image → (Image → Type 0) → Type 0) → Does acts seen (may_leave old) P Q
      → LeavesOnly moment left_since old new (AnyMoment acts seen (may_leave old)) → LeavesOnly moment left_since old new P
  made acts seen old new P Q does so = weaker moment left_since may_leave old new _ P does.any_moment so
