-- The arguments of a message, word by word.
use Rattle.std.proofs.Common.{◌≡◌, ℕ, zero, suc, ◌<◌, ◌+◌, List, [], ◌∷◌, ◌++◌, length, map, get_or, take, Option, None, Some, refl, sym, ap, subst, ◌∙◌, arith, append-nil, Bor}
use Rattle.std.specs.List.{AllZip}
use Rattle.std.specs.Option.{option_or}
use Rattle.std.proofs.lemmas.Grind.{flat_map-append}
use Rattle.wl_wire.specs.declared.argument.ArgumentType.{ArgumentType}
use Rattle.std.proofs.lemmas.List.{get_or-map, length-map, map-append, map_more}
use Rattle.wl_wire.specs.declared.interface.InterfaceId.{InterfaceId}
use Rattle.wl_relay.specs.declared.rows.Arguments.{Arguments}
use Rattle.wl_relay.specs.Inside.Gathering.{ArgumentsOf}
use Rattle.wl_relay.specs.Rows.{IsArgument, Kind, child_of, new_place, object_places, places_of, type_of}
use Rattle.wl_relay.specs.Words.{Word, spoken}

-- one word more
pub push_argument : (kinds : List Kind) (ws : List Word) (k : Kind) (w : Word) → AllZip IsArgument kinds ws → IsArgument k w
    → AllZip IsArgument (kinds ++ k ∷ []) (ws ++ w ∷ [])
push_argument [] [] k w h is = (is, tt)
push_argument [] (v ∷ ws) k w h is = absurd h
push_argument (j ∷ kinds) [] k w h is = absurd h
push_argument (j ∷ kinds) (v ∷ ws) k w h is = (h.0, push_argument kinds ws k w h.1 is)

-- each word of a list of arguments is one
pub argument_at : (kinds : List Kind) (ws : List Word) (i : ℕ) (w : Word) → AllZip IsArgument kinds ws → i < length ws → w ≡ get_or ws i w
    → (k : Kind) × IsArgument k w
argument_at [] [] i w h lt e = absurd (omega arith)
argument_at [] (v ∷ ws) i w h lt e = absurd h
argument_at (k ∷ kinds) [] i w h lt e = absurd h
argument_at (k ∷ kinds) (v ∷ ws) zero w h lt e = (k, subst (λ (x : Word). IsArgument k x) (sym e) h.0)
argument_at (k ∷ kinds) (v ∷ ws) (suc i) w h lt e = argument_at kinds ws i w h.1 (omega arith) e

either_more : (a b c : Option InterfaceId) → option_or (option_or a b) c ≡ option_or a (option_or b c)
either_more (Some place) b c = refl
either_more None b c = refl

either_none : (a : Option InterfaceId) → option_or a None ≡ a
either_none (Some place) = refl
either_none None = refl

-- the new object of one argument more
pub child_more : (kinds : List Kind) (k : Kind) → child_of (kinds ++ k ∷ []) ≡ option_or (new_place k) (child_of kinds)
child_more [] k = sym (either_none (new_place k))
child_more (j ∷ kinds) k =
    ap (λ (o : Option InterfaceId). option_or o (new_place j)) (child_more kinds k) ∙ either_more (new_place k) (child_of kinds) (new_place j)

-- and the objects
pub places_more : (kinds : List Kind) (k : Kind) → places_of (kinds ++ k ∷ []) ≡ places_of kinds ++ object_places k
places_more kinds k = flat_map-append object_places kinds (k ∷ []) ∙ ap (λ (l : List InterfaceId). places_of kinds ++ l) (append-nil (object_places k))

pub types_more : (kinds : List Kind) (k : Kind) → map type_of (kinds ++ k ∷ []) ≡ map type_of kinds ++ type_of k ∷ []
types_more kinds k = map-append type_of kinds (k ∷ [])

-- the arguments of the words so far, and of one more
pub gathers_more : (ws : List (Bor Word)) (i : ℕ) (d : Bor Word) (a b : Arguments) (k : Kind) → i < length ws
    → ArgumentsOf (spoken (take i ws)) a → IsArgument k (get_or ws i d).now → b.signature.items ≡ a.signature.items ++ type_of k ∷ []
    → b.child_interface ≡ option_or (new_place k) a.child_interface → b.arg_interfaces.items ≡ a.arg_interfaces.items ++ object_places k
    → ArgumentsOf (spoken (take (i + 1) ws)) b
gathers_more ws i d a b k lt (kinds, are, (types, child, places)) argument type new object = (
  kinds ++ k ∷ [],
  subst (λ (vs : List Word). AllZip IsArgument (kinds ++ k ∷ []) vs) (sym (map_more (λ (v : Bor Word). v.now) ws i d lt))
      (push_argument kinds (spoken (take i ws)) k (get_or ws i d).now are argument),
  (
    type ∙ ap (λ (l : List ArgumentType). l ++ type_of k ∷ []) types ∙ sym (types_more kinds k),
    new ∙ ap (λ (o : Option InterfaceId). option_or (new_place k) o) child ∙ sym (child_more kinds k),
    object ∙ ap (λ (l : List InterfaceId). l ++ object_places k) places ∙ sym (places_more kinds k),
  ),
)

-- words of which one is no argument are no arguments
pub no_arguments : (ws : List (Bor Word)) (i : ℕ) (d : Bor Word) → i < length ws → ((k : Kind) → ¬ (IsArgument k (get_or ws i d).now))
    → (kinds : List Kind) → ¬ (AllZip IsArgument kinds (spoken ws))
no_arguments ws i d lt none kinds are =
    let now = λ (v : Bor Word). v.now in
    let word = (get_or ws i d).now in
    let said : word ≡ get_or (spoken ws) i word = sym (get_or-map now ws i d word lt) in
    let short : i < length (spoken ws) = rw (length-map ws now) lt in
    let at = argument_at kinds (spoken ws) i word are short said in
    none at.0 at.1
