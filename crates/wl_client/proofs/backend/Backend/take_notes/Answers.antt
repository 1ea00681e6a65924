use Rattle.std.proofs.Common.{◌∙◌, Vec, ap, refl}
use Rattle.wl_client.proofs.backend.Backend.take_notes.Goals as goal

pub returns-clause-call : goal.returns-clause-call
returns-clause-call g c =
    rw (← c.self.view_is) (
      c.replace.result,
      refl,
      refl,
      ap (λ (v : Vec _ _). v.items) c.replace.ensures.value,
      rw (ap (λ (v : Vec _ _). v.items) c.replace.ensures.after ∙ c.new-none.ensures.items) refl,
    )

pub returns-clause-plain : goal.returns-clause-plain
returns-clause-plain g c =
    rw (← c.self.view_is)
    (record {
      taken = ap (λ (v : Vec _ _). v.items) c.replace.ensures.value;
      left = ap (λ (v : Vec _ _). v.items) c.replace.ensures.after ∙ c.new-none.ensures.items;
      objects = refl;
      link = refl;
      rest = (refl, refl, refl, refl);
      settings = (refl, (refl, refl));
    })
