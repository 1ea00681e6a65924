use Rattle.std.proofs.Common.{ap, ◌∙◌}
use Rattle.std.specs.Str.Lossy.{utf8_lossy}
use Rattle.bstr.proofs.lemmas.LossyLemmas.{lossy_chars-utf8_lossy}
use Rattle.wl_wire.proofs.c_string.CString.to_string_lossy.Goals as goal

pub returns : goal.returns
returns c =
    c.in_ok-into_owned.ensures.ok ∙ c.in_ok-text.ensures.text ∙ lossy_chars-utf8_lossy c.as_slice.result.now ∙ ap utf8_lossy (c.as_slice.ensures.value ∙ c.self.view_is)
