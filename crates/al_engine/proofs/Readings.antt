-- What a library keeps to read only one file.
use Rattle.std.proofs.Common.{◌≡◌, ◌∙◌, ℕ, List, Option, Some, None, IfSome, option_map, sym, subst}
use Rattle.al_base.specs.Files.{Texts}
use Rattle.al_engine.specs.Readings.{IsEditedAt, IsReadTwice}

module _ {X S : Type 0} (files_of : X → Texts) (read_of : S → Texts) where
  pub spare-known : (files : Texts) (last : Option X) (spare : Option S) (alone : Option (List ℕ)) → IsReadTwice files (option_map files_of last) (option_map read_of spare) alone → IfSome spare (λ s. IfSome last (λ b. read_of s ≡ files_of b))
  spare-known files last None alone is = tt
  spare-known files None (Some s) alone is = tt
  spare-known files (Some b) (Some s) alone is = is.spare_is

  pub edit-known : (files : Texts) (last : Option X) (spare : Option S) (alone : Option (List ℕ)) → IsReadTwice files (option_map files_of last) (option_map read_of spare) alone → IfSome alone (λ name. IfSome last (λ b. IsEditedAt (files_of b) name files))
  edit-known files last spare None is = tt
  edit-known files None spare (Some name) is = tt
  edit-known files (Some b) spare (Some name) is = is.edited

  -- a second copy that is taken
  pub spare-taken : (files : Texts) (last : Option X) (spare taken : Option S) (alone : Option (List ℕ)) → taken ≡ spare → IsReadTwice files (option_map files_of last) (option_map read_of spare) alone → IfSome taken (λ s. IfSome last (λ b. read_of s ≡ files_of b))
  spare-taken files last spare taken alone e is = subst (λ (o : Option S). IfSome o (λ s. IfSome last (λ b. read_of s ≡ files_of b))) (sym e) (spare-known files last spare alone is)

  pub edit-taken : (files : Texts) (last taken : Option X) (spare : Option S) (alone : Option (List ℕ)) → taken ≡ last → IsReadTwice files (option_map files_of last) (option_map read_of spare) alone → IfSome alone (λ name. IfSome taken (λ b. IsEditedAt (files_of b) name files))
  edit-taken files last taken spare alone e is = subst (λ (o : Option X). IfSome alone (λ name. IfSome o (λ b. IsEditedAt (files_of b) name files))) (sym e) (edit-known files last spare alone is)

  -- a second copy that is lost
  pub without-spare : (files : Texts) (last : Option X) (spare left : Option S) (alone : Option (List ℕ)) → left ≡ None → IsReadTwice files (option_map files_of last) (option_map read_of spare) alone → IsReadTwice files (option_map files_of last) (option_map read_of left) alone
  without-spare files last spare left alone e is = subst (λ (o : Option S). IsReadTwice files (option_map files_of last) (option_map read_of o) alone) (sym e) (record { spare_is = tt; edited = is.edited })

  -- it is of the files of the last build
  pub twice-now : (files : Texts) (b : X) (spare : Option S) → files_of b ≡ files → IfSome spare (λ s. read_of s ≡ files) → IsReadTwice files (Some (files_of b)) (option_map read_of spare) None
  twice-now files b spare of has = record { spare_is = by spare has; edited = tt }
    where
      by : (o : Option S) → IfSome o (λ s. read_of s ≡ files) → IfSome (option_map read_of o) (λ s. s ≡ files_of b)
      by None is = tt
      by (Some s) is = is ∙ sym of
