-- The table of interfaces of the program: the fixed ones, and `quad`.
use Rattle.std.specs.Prelude.{ℕ, List, [], ◌∷◌, ◌++◌, codes, true, false, None, Some}
use Rattle.wl_wire.specs.declared.argument.AllowNull.TheVariants as null
use Rattle.wl_wire.specs.declared.argument.ArgumentType.{ArgumentType}
use Rattle.wl_wire.specs.declared.argument.ArgumentType.TheVariants as kind
use Rattle.wl_wire.specs.declared.interface.InterfaceId.{InterfaceId}
use Rattle.wl_wire.specs.Table.{InterfaceRow, MessageRow, fixed_rows}

-- the place of `quad`
abbrev pub quad_id : InterfaceId
quad_id = record { 0 = 4 }

-- a message that neither makes nor ends an object, and names none
abbrev pub plain : List ℕ → List ArgumentType → MessageRow
plain name signature = record {
  name = name;
  signature = signature;
  since = 1;
  is_destructor = false;
  child_interface = None;
  arg_interfaces = [];
}

-- one that ends its object
abbrev pub destructor : List ℕ → MessageRow
destructor name = record (plain name []) { is_destructor = true }

-- one that makes a `quad`, since this version
abbrev pub making : List ℕ → ℕ → MessageRow
making name since = record (plain name (kind.NewId ∷ [])) { since = since; child_interface = Some quad_id }

abbrev pub quad_row : InterfaceRow
quad_row = record {
  name = codes "quad";
  version = 3;
  requests =
      plain (codes "poke") (kind.Int ∷ [])
      ∷ making (codes "make") 2
      ∷ destructor (codes "destroy")
      ∷ record (plain (codes "link") (kind.Object null.Yes ∷ kind.Object null.No ∷ [])) { arg_interfaces = quad_id ∷ quad_id ∷ [] }
      ∷ plain (codes "give") (kind.Str null.No ∷ kind.Array ∷ kind.Fd ∷ [])
      ∷ [];
  events =
      plain (codes "moved") (kind.Int ∷ [])
      ∷ making (codes "made") 1
      ∷ destructor (codes "gone")
      ∷ [];
}

abbrev pub bench_rows : List InterfaceRow
bench_rows = fixed_rows ++ quad_row ∷ []
