-- If a command changes its page, its reply is one that may need memory.
use Rattle.std.proofs.Common.{◌≡◌, Bool, true, is_some, Option, Some, None, refl}
use Rattle.std.specs.Option.{option_map}
use Rattle.store_cmd.specs.declared.Reply.{Reply}
use Rattle.store_cmd.specs.declared.Reply.TheVariants.{Found, Missing, Stored, Exists, Crowded, Deleted, Ran, Count}
use Rattle.store_moves.specs.Leads.{does_change}
use Rattle.store_moves.specs.Worked.{takes_memory}

pub changing_takes : {A : Type 0} (there : Bool) (reply : Reply A) → does_change there reply ≡ true → takes_memory reply ≡ true
changing_takes there (Found value) h = refl
changing_takes there Missing h = absurd (cc)
changing_takes there Stored h = refl
changing_takes there Exists h = absurd (cc)
changing_takes there Crowded h = absurd (cc)
changing_takes there Deleted h = refl
changing_takes there (Ran code word) h = refl
changing_takes there (Count n) h = absurd (cc)

pub mapped_some : {X Y : Type 0} (f : X → Y) (o : Option X) → is_some o ≡ true → is_some (option_map f o) ≡ true
mapped_some f None h = absurd (cc)
mapped_some f (Some x) h = refl
