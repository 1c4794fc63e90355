-- Bytes that complete a text from any state.
use Rattle.std.proofs.Common.{ℕ, suc, List, [], ◌∷◌, ◌++◌, length, refl, inl}
use Rattle.json_character.specs.Ascii as ascii
use Rattle.exact_json.specs.Grammar.{Value}
use Rattle.exact_json.specs.Limits.{Limits}
use Rattle.json_value.specs.Machine.{Frame, in_list, in_table, Role, as_value, as_name}
use Rattle.json_character.specs.Pieces.{Word, Blanks}
use Rattle.json_value.specs.Tree.{Tree, null, text, no_item, no_pair, Entry, list_of, table_of}
use Rattle.exact_json.proofs.Left.{Closes, AfterName, ClosesText}

-- Brackets and braces for all that is open.

-- bytes after which the tree is known
pub record Ending (P : Limits → Tree → List ℕ → Type 0) : Type 0 where
  pub tree : Tree
  pub bytes : List ℕ
  pub holds : (limits : Limits) → P limits tree bytes

pub close : (frames : List Frame) (v : Tree) → Ending (λ limits t xs. Closes limits frames v t xs)
close [] v = record { tree = v; bytes = []; holds = λ limits. (refl, tt) }
close (in_list ts ∷ frames) v =
    let r = close frames (list_of (ts ++ v ∷ [])) in
    record { tree = r.tree; bytes = ascii.close_bracket ∷ r.bytes; holds = λ limits. (no_item, r.bytes, inl (refl, refl), r.holds limits) }
close (in_table es n ∷ frames) v =
    let r = close frames (table_of (es ++ record { name = n; value = v } ∷ [])) in
    record { tree = r.tree; bytes = ascii.close_brace ∷ r.bytes; holds = λ limits. (no_pair, r.bytes, inl (refl, refl), r.holds limits) }

-- `null`
pub nulled : List ℕ → List ℕ
nulled xs = 0x6E ∷ 0x75 ∷ 0x6C ∷ 0x6C ∷ xs

pub null_value : (limits : Limits) (depth : ℕ) (ys : List ℕ) → Blanks (λ rest. Value limits depth null rest ys) (nulled ys)
unfolding nulled
null_value limits depth ys = inl (refl, (refl, (refl, (refl, refl))))

pub name_value : (es : List Entry) (n : List ℕ) (frames : List Frame) → Ending (λ limits t xs. AfterName limits es n frames t xs)
name_value es n frames =
    let r = close frames (table_of (es ++ record { name = n; value = null } ∷ [])) in
    record {
      tree = r.tree;
      bytes = ascii.colon ∷ nulled (ascii.close_brace ∷ r.bytes);
      holds = λ limits. (null, ascii.close_brace ∷ r.bytes, inl (refl, null_value limits (suc (length frames)) (ascii.close_brace ∷ r.bytes)), (no_pair, r.bytes, inl (refl, refl), r.holds limits));
    }

pub text_end : (role : Role) (s : List ℕ) (frames : List Frame) → Ending (λ limits t xs. ClosesText limits role s frames t xs)
text_end as_value s frames = close frames (text s)
text_end (as_name es) s frames = name_value es s frames

pub word_front : (ws : List ℕ) (K : List ℕ → Type 0) (xs : List ℕ) → K xs → Word ws K (ws ++ xs)
word_front [] K xs h = h
word_front (w ∷ ws) K xs h = (refl, word_front ws K xs h)
