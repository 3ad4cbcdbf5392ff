-- What is taken of a document.
use Rattle.lists.proofs.Words.{◌≡◌, ◌<◌, ℕ, Bool, true, false, List, [], ◌∷◌, ◌++◌, refl, subst, length, inl, inr, Result, Ok, Err, OnOk, IfErr, IsAllOf, BytesStop, AreNoDocuments, LackField, Strings, encoding_of, TakesStrings, TakesDocuments, ReadsDocument, StopsAtDocument, KnownLists, ReadLists, at_list, TakesBytes, FailsBytes, not_read, BytesFault, ReadFault}
use Rattle.lists.specs.declared.bytes.BytesFault.TheVariants as unread
use Rattle.lists.specs.declared.named.ReadFault.TheVariants as faults

-- strings after others
pub strings_joined : (strict : Bool) (before between after : ReadLists) (some others : List (List ℕ))
    → TakesStrings strict before some between → TakesStrings strict between others after
    → TakesStrings strict before (some ++ others) after
strings_joined strict before between after [] others h k =
    subst (λ (l : ReadLists). TakesStrings strict l others after) h k
strings_joined strict before between after (text ∷ some) others h k =
    (h.0, h.1, strings_joined strict h.0 between after some others h.2 k)

module _ (known : KnownLists) (strings : Strings) (name : List ℕ) (number : ℕ) (before : ReadLists) where
  -- its bytes were not read
  pub stops_unread : (fault : BytesFault) → BytesStop known name 1073741824 fault
      → StopsAtDocument known strings number name before (not_read number fault) before
  stops_unread (unread.Open cause) h = (refl, h.0, h.1, refl)
  stops_unread unread.Read h = (refl, h.0, h.1, refl)
  stops_unread unread.Length h = (refl, h.0, h.1, refl)
  stops_unread unread.OutOfMemory h = inl (h, refl)

  module _ (bytes : List ℕ) (after : ReadLists) (all : IsAllOf known name bytes) where
    document_read : (out : Bool) → TakesBytes strings (at_list before number) bytes after out
        → ReadsDocument known strings number name before after
    document_read out h = (
      all.0,
      λ input e. subst (λ (b : List ℕ). TakesDocuments strings (at_list before number) b after)
          (all.1 input e) h.0,
    )

    fails_by : (fault : ReadFault) → FailsBytes strings number bytes before after fault
        → StopsAtDocument known strings number name before fault after
    fails_by (faults.Open place cause) h = absurd h
    fails_by (faults.Read place) h = absurd h
    fails_by (faults.Length place) h = absurd h
    fails_by (faults.Cut place) h = absurd h
    fails_by (faults.NotJson place line encoding) h = (
      h.0,
      all.0,
      (λ input e. subst (λ (b : List ℕ). AreNoDocuments b × (encoding ≡ encoding_of b)) (all.1 input e)
          (h.1, h.2)),
      h.3,
    )
    fails_by (faults.NoField place field) h =
        (h.0, all.0, (λ input e. subst (λ (b : List ℕ). LackField strings field b) (all.1 input e) h.1), h.2)
    fails_by faults.OutOfMemory (inl h) =
        inl ((all.0, λ input e. subst (λ (b : List ℕ). 0 < length b) (all.1 input e) h.0), h.1)
    fails_by faults.OutOfMemory (inr h) = inr (document_read true h, h.1)

    pub document_ends : {T : Type 0} (result : Result T ReadFault)
        → OnOk result (TakesBytes strings (at_list before number) bytes after false)
        → IfErr result (FailsBytes strings number bytes before after)
        → OnOk result (ReadsDocument known strings number name before after)
        × OnOk result (after.is_out_of_memory ≡ false)
        × IfErr result (λ fault. StopsAtDocument known strings number name before fault after)
    document_ends (Ok done) h k = (document_read false h, h.1, tt)
    document_ends (Err fault) h k = (tt, tt, fails_by fault k)
