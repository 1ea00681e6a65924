-- Replacing the descriptors of a message.
use Rattle.std.specs.Prelude.{◌≡◌, List, [], ◌∷◌}
use Rattle.wl_wire.specs.declared.argument.Argument.{Argument}
use Rattle.wl_wire.specs.declared.argument.Argument.TheVariants as arg

module _ {Id Fd T F : Type 0} (step : F → Fd → T → F → Type 0) where
  -- a descriptor is replaced by what a call gave for it, and the call took the closure from f to g; all else stays
  abbrev pub MapsFd : F → Argument Id Fd → Argument Id T → F → Type 0
  MapsFd f (arg.Fd t) (arg.Fd u) g = step f t u g
  MapsFd f (arg.Int x) (arg.Int y) g = (y ≡ x) × (g ≡ f)
  MapsFd f (arg.Uint x) (arg.Uint y) g = (y ≡ x) × (g ≡ f)
  MapsFd f (arg.Fixed x) (arg.Fixed y) g = (y ≡ x) × (g ≡ f)
  MapsFd f (arg.Str x) (arg.Str y) g = (y ≡ x) × (g ≡ f)
  MapsFd f (arg.Object x) (arg.Object y) g = (y ≡ x) × (g ≡ f)
  MapsFd f (arg.NewId x) (arg.NewId y) g = (y ≡ x) × (g ≡ f)
  MapsFd f (arg.Array x) (arg.Array y) g = (y ≡ x) × (g ≡ f)
  MapsFd f _ _ g = ⊥

  -- each argument, from left to right
  abbrev pub MapsFds : F → List (Argument Id Fd) → List (Argument Id T) → F → Type 0
  MapsFds f [] [] g = g ≡ f
  MapsFds f (a ∷ args) (b ∷ new) g = (h : F) × MapsFd f a b h × MapsFds h args new g
  MapsFds f _ _ g = ⊥
