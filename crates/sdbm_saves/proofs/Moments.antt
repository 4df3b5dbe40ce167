-- Composing the outcomes of successive disk calls.
use Rattle.std.proofs.Common.{inl, inr, ⊎_elim, ℕ, arith}
use Rattle.sdbm_saves.specs.Disk.{Image, Follows, Elapses, LeavesOnly, Through}

module _ {D : Type 0} (moment : D → ℕ) (left_since : D → ℕ → Image → Type 0) (may_leave : D → Image → Type 0) where
  -- before the first call
  pub at_first : (old : D) (P : Image → Type 0) → ((c : Image) → left_since old (moment old) c → P c) → LeavesOnly moment left_since old old P
  at_first old P here = record { later = omega arith; each = here; before = λ t c le left. inl left }

  -- two periods, one after the other
  pub then_on : (old mid new : D) (P : Image → Type 0) → LeavesOnly moment left_since old mid P → LeavesOnly moment left_since mid new P → LeavesOnly moment left_since old new P
  then_on old mid new P first next = record {
    later = omega (arith, first.later, next.later);
    each = λ c left. ⊎_elim (first.each c) (λ p. p) (next.before (moment old) c first.later left);
    before = λ t c le left. ⊎_elim (first.before t c le) (λ p. inr p) (next.before t c (omega (arith, le, first.later)) left);
  }

  -- each image that satisfies P satisfies Q
  pub weaker : (old new : D) (P Q : Image → Type 0) → ((c : Image) → P c → Q c) → LeavesOnly moment left_since old new P → LeavesOnly moment left_since old new Q
  weaker old new P Q implies so = record {
    later = so.later;
    each = λ c left. implies c (so.each c left);
    before = λ t c le left. ⊎_elim (λ was. inl was) (λ p. inr (implies c p)) (so.before t c le left);
  }

  module _ (only_now : (disk : D) (c : Image) → left_since disk (moment disk) c → may_leave disk c) where
    -- one disk call, whose step may do nothing
    pub one_call : (step : Image → Image → Type 0) (old new : D) → ((d : Image) → step d d) → Follows step (may_leave old) (may_leave new)
        → Elapses (moment old) (moment new) (left_since old) (left_since new) (may_leave new) → Through moment left_since may_leave step old new
    one_call step old new stays crash time = record {
      crash = crash;
      moments = record {
        later = time.later;
        each = λ c left. ⊎_elim (λ was. (c, only_now old c was, stays c)) (λ now. crash c now) (time.nothing_else (moment old) c (omega arith) left);
        before = λ t c le left. ⊎_elim (λ was. inl was) (λ now. inr (crash c now)) (time.nothing_else t c le left);
      };
    }

    -- a call that adds no outcome
    pub no_step : (step : Image → Image → Type 0) (old new : D) → ((d : Image) → step d d) → ((c : Image) → may_leave new c → may_leave old c)
        → Elapses (moment old) (moment new) (left_since old) (left_since new) (may_leave new) → Through moment left_since may_leave step old new
    no_step step old new stays crash time = one_call step old new stays (λ c now. (c, crash c now, stays c)) time

    pub nothing_yet : (step : Image → Image → Type 0) (old : D) → ((d : Image) → step d d) → Through moment left_since may_leave step old old
    nothing_yet step old stays = record {
      crash = λ c now. (c, now, stays c);
      moments = at_first old _ (λ c left. (c, only_now old c left, stays c));
    }

  -- a step that implies another step
  pub through_by : (step other : Image → Image → Type 0) (old new : D) → ((d c : Image) → step d c → other d c) → Through moment left_since may_leave step old new → Through moment left_since may_leave other old new
  through_by step other old new implies so = record {
    crash = λ c now. let from = so.crash c now in (from.0, from.1, implies from.0 c from.2);
    moments = weaker old new _ _ (λ c p. (p.0, p.1, implies p.0 c p.2)) so.moments;
  }

  -- two periods with steps that compose
  pub joined : (step : Image → Image → Type 0) (old mid new : D) → ((a b c : Image) → step a b → step b c → step a c)
      → Through moment left_since may_leave step old mid → Through moment left_since may_leave step mid new → Through moment left_since may_leave step old new
  joined step old mid new joins first next = record {
    crash = λ c now. back c (next.crash c now);
    moments = then_on old mid new _ first.moments (weaker mid new _ _ back next.moments);
  }
    where
      back : (c : Image) → (d : Image) × may_leave mid d × step d c → (d : Image) × may_leave old d × step d c
      back c from = let first_from = first.crash from.0 from.1 in (first_from.0, first_from.1, joins first_from.0 from.0 c first_from.2 from.2)

  -- if P holds for the outcomes before and is kept by the steps, it holds after them
  pub leaves : (step : Image → Image → Type 0) (old new : D) (P : Image → Type 0) → ((d c : Image) → may_leave old d → step d c → P c) → Through moment left_since may_leave step old new → LeavesOnly moment left_since old new P
  leaves step old new P has so = weaker old new _ P (λ c from. has from.0 c from.1 from.2) so.moments
