-- How a pointer, a struct of one pointer, and the parts of a box on the heap lie in the machine. Assumes `Logic`.
use Rattle.std.proofs.Common.{◌≡◌, List, [], ◌∷◌, ◌++◌, refl, sym, ap, ◌∙◌, lit<}
use Rattle.std.proofs.Handle.{heap_val, heap_Tells}
use Rattle.std.specs.Prelude.{None, Option, Some, IsSome}
use Rattle.std.specs.contracts.alloc.Global as heap
use Rattle.std.specs.contracts.impls.GlobalAllocator.TheImpl.{ghosts}
use mathlib.Core.Bool.{true≢false}
use lib.Dec.{T}
use seplogic.Ra.Ura.{Ura}
use mir.Syntax.{Sym}
use mir.Val.{Val, vstruct, vcons, vnil, of_list, has_ty, WT}
use base.Logic.{ent, emp}
use types.Logic.{Logic, sem}
use denote.Builtin.{RawPtr}
use denote.Laws.{Is}
use denote.Param.{layout}
use denote.RattleType.{RattleType}
use denote.RawPtr.{Ptr, block_ptr, null_ptr, ptr_val}
use denote.Shadow.{makes_shadow}
use denote.Struct.Owning.{shape}
use denote.Struct.Struct.{Struct}
use Rattle.wl_c.specs.contracts.parts.Parts as parts

-- What an option holds that holds something.
module _ {X : Type 0} where
  pub inside : (o : Option X) → IsSome o → X
  inside (Some x) _ = x
  inside None is = absurd (true≢false (sym is))

  pub is_inside : (o : Option X) (is : IsSome o) → o ≡ Some (inside o is)
  unfolding inside
  is_inside (Some x) _ = refl
  is_inside None is = absurd (true≢false (sym is))

abbrev pub Fits : RattleType → Val → Type 0
Fits R v = T (has_ty (layout R) v) × WT v

pub ptr_fits : (p : Ptr) → Fits RawPtr (ptr_val p)
ptr_fits (block_ptr b o) = (tt, tt)
ptr_fits null_ptr = (tt, record { fits = lit< tt })

-- A struct of this name whose one field is a pointer, without what it owns.
module _ (name : Sym) where
  abbrev pub Alone : RattleType
  Alone = Struct (record { name = name; args = []; types = []; fields = RawPtr ∷ [] })

  abbrev pub alone : Ptr → Val
  alone p = vstruct (vcons (ptr_val p) vnil)

  pub alone_fits : (p : Ptr) → Fits Alone (alone p)
  alone_fits (block_ptr b o) = (tt, (tt, tt))
  alone_fits null_ptr = (tt, (record { fits = lit< tt }, tt))

  pub alone_told : (p : Ptr) (vs : List Val) → Is Alone (p, tt) vs → vs ≡ alone p ∷ []
  alone_told p vs is = is.1.0 ∙ ap (λ (ws : List Val). vstruct (of_list (ws ++ [])) ∷ []) is.1.1.0

  pub alone_made : {M : Type 1} {𝓤 : Ura M} (𝓛 : Logic 𝓤) (p : Ptr) → ent 𝓤 (emp 𝓤) (sem 𝓛 (Alone.own_val (p, tt) (alone p ∷ [])))
  alone_made 𝓛 p = makes_shadow 𝓛 (Alone.own_val (p, tt) (alone p ∷ [])) (λ vss. (tt, (tt, tt))) ((ptr_val p ∷ [], tt), (refl, (refl, tt)))

-- The parts of a box of a value of this row on the heap, and the same without what they own.
module _ (R : RattleType) where
  abbrev pub Parted : RattleType
  Parted = parts.the_row R heap.the_row ghosts

  abbrev pub Pair : RattleType
  Pair = Struct (shape (parts.the_type R heap.the_row ghosts))

  abbrev pub pair : Ptr → Val
  pair p = vstruct (vcons (ptr_val p) (vcons heap_val vnil))

  pub pair_fits : (p : Ptr) → Fits Parted (pair p)
  pair_fits (block_ptr b o) = (tt, (tt, (((tt, tt), tt), tt)))
  pair_fits null_ptr = (tt, (record { fits = lit< tt }, (((tt, tt), tt), tt)))

  pub pair_told : (d : Parted.Denot) (vs : List Val) → Is Pair (d.at, (d.handle, tt)) vs → vs ≡ pair d.at ∷ []
  pair_told d vs is = is.1.0 ∙ ap (λ (ws : List Val). vstruct (of_list (ws ++ (is.0.1.0 ++ []))) ∷ []) is.1.1.0
      ∙ ap (λ (ws : List Val). vstruct (of_list (ptr_val d.at ∷ (ws ++ []))) ∷ []) (heap_Tells d.handle is.0.1.0 is.1.1.1.0)
