use Rattle.std.proofs.Common.{refl, sym, subst, inr, arith}
use Rattle.prog_registry.specs.Programs.{IsNew}
use Rattle.prog_registry.specs.Registry.{Registered}
use Rattle.prog_registry.proofs.Codes.{program_sized}
use Rattle.prog_registry.proofs.registry.Registry.enlist.Goals as goal

pub returns-then-is_full-clause-err : goal.returns-then-is_full-clause-err
returns-then-is_full-clause-err g c = (
  c.requires.unheard,
  (record { program = c.args.program; is = c.requires.program }, (rw (← c.self.view_is) (c.if-is_full.ensures.value.0 refl), refl)),
)

pub add-requires-clause-new : goal.add-requires-clause-new
add-requires-clause-new g c = subst (λ (r : Registered). IsNew r.programs c.args.image.now) (sym c.self.view_is) c.requires.unheard.is_new

pub returns-in_default-clause-err : goal.returns-in_default-clause-err
returns-in_default-clause-err g c = (
  c.requires.unheard,
  (program_sized c.args.program c.args.image.now c.requires.program, rw c.in_default.ensures.err c.self.view_is),
)

pub returns-clause-ok : goal.returns-clause-ok
returns-clause-ok g c = inr (record {
  is_new = c.requires.unheard.is_new;
  unjudged = c.requires.unheard.unjudged;
  room = rw (← c.self.view_is) (grind arith);
  next = rw (← c.self.view_is) c.in-Ok.ensures.number;
  program = c.args.program;
  is = c.requires.program;
  programs = rw (← c.self.view_is) c.in-Ok.ensures.ok;
  recent = rw (← c.self.view_is) refl;
})
