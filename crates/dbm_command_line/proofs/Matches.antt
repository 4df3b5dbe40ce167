-- `clap`'s matches of the command line.
use Rattle.std.proofs.Common.{◌≡◌, ℕ, List, Option, Some, None, Bool, true, false, option_map, refl, sym, subst, arith, Result, Ok, Err, IfErr, IsErrAnd, inl, inr}
use Rattle.std.specs.Str.{bytes_eq}
use Rattle.std.proofs.lemmas.Slice.Eq.{bytes_eq-Decides}
use Rattle.clap.specs.Words.{HasKind, IsAmong, Kinds, Row, Text, kind_of, is_simple, is_simple_and_free, subcommand_name_of, subcommand_rows_of}
use Rattle.clap.specs.declared.ArgMatches.{ArgMatches}
use Rattle.clap.specs.declared.parser.matches.ArgMatches.TheViews.{out-ArgMatches}
use Rattle.clap.specs.declared.error.Error.{Error}
use Rattle.clap.proofs.OnLiterals.{clap_on_literals}
use Rattle.dbm_command_line.specs.Tool.{tool}
use Rattle.dbm_command_line.specs.Wishes.{IsFaultOf, IsRefusedFor}
use Rattle.dbm_command_line.specs.declared.fault.ToolFault.{ToolFault}
use Rattle.dbm_command_line.specs.declared.fault.ToolFault.TheVariants.{Refused, NoMemory, NoWord}

-- two different texts
pub differs : (a b : List ℕ) → (b ≡ a → ⊥) → bytes_eq a b ≡ false
differs a b h = go (bytes_eq a b) refl
  where
    go : (t : Bool) → bytes_eq a b ≡ t → t ≡ false
    go false e = refl
    go true e = absurd (h (sym ((bytes_eq-Decides a b).0 e)))

abbrev pair : {B : Type 0} → (B → Text) → (B → List Row) → B → Text × List Row
pair f g b = (f b, g b)

abbrev second : Text × List Row → List Row
second p = p.1

some_text : (a b : Text) → Some a ≡ Some b → b ≡ a
some_text a b h = grind arith

some_rows : (a b : List Row) → Some a ≡ Some b → b ≡ a
some_rows a b h = grind arith

joined : {B : Type 0} (f : B → Text) (g : B → List Row) (o : Option B) (n : Text) (r : List Row) → Some n ≡ option_map f o
    → Some r ≡ option_map second (option_map (pair f g) o) → option_map (pair f g) o ≡ Some (n, r)
joined f g None n r h k = cc
joined f g (Some b) n r h k = rw (some_text n (f b) h, some_rows r (g b) k) refl

-- the subcommand of the matches, from its name and its own matches
pub met : (m : ArgMatches) (name : Text) (rows : List Row) → Some name ≡ subcommand_name_of m → Some rows ≡ option_map (λ (p : Text × List Row). p.1) (subcommand_rows_of m)
    → subcommand_rows_of m ≡ Some (name, rows)
met m name rows n r = joined _ _ (out-ArgMatches m).subcommand name rows n r

-- the command line is simple, so `clap`'s result is known exactly
pub tool_is_simple : is_simple tool ≡ true
unfolding clap_on_literals
tool_is_simple = refl

pub tool_is_free : is_simple_and_free tool ≡ true
unfolding clap_on_literals
tool_is_free = refl

-- an error of `clap` of one of these kinds, or a failed allocation, as the fault that it becomes
pub refused_for : {T : Type 0} (r : Result T ToolFault) (e : Error) (kinds : Kinds) → HasKind kinds e → IsErrAnd r (IsFaultOf e) → IfErr r (IsRefusedFor kinds)
refused_for (Ok x) e kinds has is = tt
refused_for (Err (Refused kept)) e kinds (inl memory) is = absurd (is.1 memory)
refused_for (Err (Refused kept)) e kinds (inr among) is = subst (λ (x : Error). IsAmong (kind_of x) kinds) (sym is.0) among
refused_for (Err NoMemory) e kinds has is = tt
refused_for (Err NoWord) e kinds has is = tt
