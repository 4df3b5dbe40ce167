use Rattle.std.proofs.Common.{rules, ◌≡◌, ◌<◌, ◌%◌, ◌∙◌, ◌==◌, ℕ, zero, suc, true, get_or, ap, refl, arith}
use Rattle.std.specs.Int.{bit_at}
use Rattle.std.proofs.lemmas.Bool.{eqb-true}
use Rattle.std.proofs.lemmas.Nat.{mod_below}
use Rattle.sdbm_dir.proofs.bitmap.is_full.Goals as goal

-- all bits of the byte 255 are 1
ones : (j : ℕ) → j < 8 → (bit_at 255 j == 1) ≡ true
ones zero l = refl
ones (suc zero) l = refl
ones (suc (suc zero)) l = refl
ones (suc (suc (suc zero))) l = refl
ones (suc (suc (suc (suc zero)))) l = refl
ones (suc (suc (suc (suc (suc zero))))) l = refl
ones (suc (suc (suc (suc (suc (suc zero)))))) l = refl
ones (suc (suc (suc (suc (suc (suc (suc zero))))))) l = refl
ones (suc (suc (suc (suc (suc (suc (suc (suc j)))))))) l = absurd (omega arith)

pub returns : goal.returns
returns c = λ t n e.
    let byte : get_or c.args.bytes.now c.args.index 0 ≡ 255 = eqb-true _ _ t in
    rw (e, byte) (ones (n % 8) (mod_below n 8 (omega arith)))
