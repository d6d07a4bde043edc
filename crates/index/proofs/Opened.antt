-- The texts of an opened file are those that the file says, for a caller that knows what `open` ensures.
use Rattle.std.proofs.Common.{◌≡◌, ℕ, cond, List, [], length, get_or, Ok, Err, Result, refl, ap, inl, inr, arith}
use Rattle.std.proofs.lemmas.Bool.{cases_Bool}
use Rattle.refusals.specs.declared.refusal.Refusal.{Refusal}
use Rattle.refusals.specs.declared.refusal.Refusal.TheVariants.{BadIndex}
use Rattle.index.specs.declared.file.SessionFile.{SessionFile}
use Rattle.index.specs.Index.{sound}
use Rattle.index.specs.Texts.{texts, texts_in}
use Rattle.index.specs.Opened.{texts_of, said}

-- a file with texts is opened, and its texts are those
pub opens : (r : Result SessionFile Refusal) (file : List ℕ) (ts : List (List ℕ)) → said r ≡ texts file → texts file ≡ Ok ts → (f : SessionFile) × (r ≡ Ok f) × (texts_of f ≡ ts)
opens (Ok f) file ts e o = (f, refl, cc)
opens (Err x) file ts e o = let z : ◌≡◌ {A = ℕ} 0 1 = cc in absurd (omega arith)

-- so are the answers of `count` and `text`
pub opened_texts : (f : SessionFile) (file : List ℕ) (ts : List (List ℕ)) → said (Ok f) ≡ texts file → texts file ≡ Ok ts → texts_of f ≡ ts
opened_texts f file ts e o = cc

pub opened_count : (f : SessionFile) (file : List ℕ) (ts : List (List ℕ)) → said (Ok f) ≡ texts file → texts file ≡ Ok ts → length (texts_of f) ≡ length ts
opened_count f file ts e o = ap length (opened_texts f file ts e o)

pub opened_text : (f : SessionFile) (file : List ℕ) (ts : List (List ℕ)) → said (Ok f) ≡ texts file → texts file ≡ Ok ts → (i : ℕ) → get_or (texts_of f) i [] ≡ get_or ts i []
opened_text f file ts e o i = ap (λ l. get_or l i []) (opened_texts f file ts e o)

-- the one refusal of a file
pub refused_as : (file : List ℕ) (x : Refusal) → Err x ≡ texts file → x ≡ BadIndex
unfolding texts
refused_as file x e = elim (cases_Bool (sound file)) [ inl t ↦ let o : texts file ≡ Ok (texts_in file) = ap (λ b. cond b (Ok (texts_in file)) (Err BadIndex)) t in cc | inr t ↦ let o : texts file ≡ Err BadIndex = ap (λ b. cond b (Ok (texts_in file)) (Err BadIndex)) t in cc ]
