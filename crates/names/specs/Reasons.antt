-- The conditions that failed, in words.
use Rattle.std.specs.Prelude.{ℕ, ◌≡◌, refl, Bool, true, cond, List, [], ◌++◌, eqb}
use Rattle.rules.specs.FileFlags.{flag_source}
use Rattle.rules.specs.Lines.{decimal, decimal_in}
use Rattle.rules.specs.Text.{ascii}
use Rattle.state.specs.declared.Call.{Call}
use Rattle.state.specs.declared.Facility.{Facility}
use Rattle.state.specs.State.{objects_in}
use Rattle.reasons.specs.declared.Failed.{Failed}
use Rattle.reasons.specs.Reasons.{failed_of}
use Rattle.names.specs.Words.{flag_word}

-- a text where something is so
unfoldable pub text_if : Bool → List ℕ → List ℕ
text_if b text = cond b text []

-- MAC's, each in brackets: of the label that was asked for, and of a signal's receiver
unfoldable pub mac_reasons : Failed → List ℕ
mac_reasons w =
    text_if w.unset (ascii " (level unset)") ++ text_if w.fixed (ascii " (automatic off)")
    ++ text_if w.clearance (ascii " (label not under the clearance)") ++ text_if w.writemark (ascii " (label not under the write mark)")
    ++ text_if w.readmark (ascii " (label not over the read mark)") ++ text_if w.receiver (ascii " (current labels differ)")

-- FC's and SIM's
unfoldable pub role_reasons : Failed → List ℕ
role_reasons w =
    text_if w.nocategory (ascii " (category unset)") ++ text_if w.category (ascii " (category not of the role)")
    ++ text_if w.datatype (ascii " (security information, not security officer)")

-- FF's: the flag, and the object whose own flag it is
unfoldable pub flag_reason : ℕ → ℕ → List ℕ
flag_reason m source = cond (eqb m 0) [] (ascii " (" ++ flag_word m ++ ascii " of object " ++ decimal source ++ ascii ")")

unfoldable pub failed_text : Failed → ℕ → List ℕ
failed_text w source = mac_reasons w ++ role_reasons w ++ flag_reason w.flag source

-- the object that the flag comes from which forbids call c on f
abbrev pub source_of : Facility → Call → ℕ → ℕ
source_of f c flag = flag_source (objects_in f) c.target flag

-- why call c on f is denied
unfoldable pub why_text : Facility → Call → List ℕ
why_text f c = failed_text (failed_of f c) (source_of f c (failed_of f c).flag)

example :
    failed_text
    (record {
      unset = true;
      fixed = true;
      clearance = true;
      writemark = true;
      readmark = true;
      receiver = true;
      nocategory = true;
      category = true;
      datatype = true;
      flag = 1;
    })
    12
    ≡ ascii " (level unset) (automatic off) (label not under the clearance) (label not under the write mark) (label not over the read mark)"
    ++ ascii " (current labels differ) (category unset) (category not of the role) (security information, not security officer) (read-only of object 12)"
unfolding decimal_in text_if mac_reasons role_reasons flag_reason failed_text flag_word
example = refl
