-- The worked cases. Assumes nothing.
use Rattle.std.specs.Prelude.{◌≡◌, ℕ, ◌-◌, ◌^◌, List, [], ◌∷◌, Some, None, Ok, Err, codes, Option, Result}
use Rattle.std.specs.List.{AllByRecursion}
use Rattle.refusal.specs.Runs.{refusal_at}
use Rattle.refusal.specs.declared.Kind.TheVariants.{InvalidConversion, InvalidFormat, IOError, Utf8Error}
use Rattle.refusal.specs.declared.Layer.TheVariants.{Payload, Attribute, Text}
use Rattle.refusal.specs.declared.Refusal.{Refusal}
use Rattle.summary.specs.Answers.{answer_of}
use Rattle.summary.specs.declared.Summary.{Summary}
use Rattle.cases.specs.Contents.{Contents, contents_of}

pub record Case : Type 0 where
  pub input : List ℕ
  pub answer : Result Summary Refusal
  pub contents : Option Contents

-- bytes read, chunks, spans, links, events, nodes, texts: in the order in which they are printed
abbrev pub counts : ℕ → ℕ → ℕ → ℕ → ℕ → ℕ → ℕ → Summary
counts r c s l e n t = record { read = r; chunks = c; spans = s; links = l; events = e; nodes = n; texts = t }

abbrev pub read : List ℕ → Summary → List (ℕ × List ℕ) → List (List ℕ) → List (List ℕ × ℕ × ℕ) → Case
read i s f t n = record { input = i; answer = Ok s; contents = Some (record { fields = f; texts = t; nodes = n }) }

abbrev pub refused : List ℕ → Refusal → Case
refused i e = record { input = i; answer = Err e; contents = None }

-- the input, the answer, and of what is read the fields that are texts, all texts, and all nodes
abbrev pub cases : List Case
cases =
    -- an empty array of chunks is enough
    read (0x81 ∷ 0x0b ∷ 0x90 ∷ []) (counts 3 0 0 0 0 0 1) [] ([] ∷ []) []
    -- chunks are missing
    ∷ refused (0x80 ∷ []) (refusal_at InvalidFormat Payload 0)
    -- a skipped string takes a number
    ∷ read (0x83 ∷ 0x1e ∷ 0xa3 ∷ 0x70 ∷ 0x70 ∷ 0x73 ∷ 0x0b ∷ 0x90 ∷ 0x06 ∷ 0x01 ∷ []) (counts 10 0 0 0 0 0 2)
    ((6, codes "pps") ∷ []) ([] ∷ codes "pps" ∷ []) []
    -- one that is not UTF-8 takes none
    ∷ refused (0x83 ∷ 0x1e ∷ 0xa1 ∷ 0xff ∷ 0x0b ∷ 0x90 ∷ 0x06 ∷ 0x01 ∷ []) (refusal_at InvalidFormat Text 7)
    -- number 0 is the empty text
    ∷ read (0x82 ∷ 0x06 ∷ 0x00 ∷ 0x0b ∷ 0x90 ∷ []) (counts 5 0 0 0 0 0 1) [] ([] ∷ []) []
    -- a text number is unsigned
    ∷ refused (0x82 ∷ 0x06 ∷ 0xd0 ∷ 0x00 ∷ 0x0b ∷ 0x90 ∷ []) (refusal_at InvalidFormat Text 2)
    -- a text that is not UTF-8, one whose length is cut off, and one whose contents are
    ∷ refused (0x82 ∷ 0x06 ∷ 0xa1 ∷ 0x80 ∷ 0x0b ∷ 0x90 ∷ []) (refusal_at Utf8Error Text 2)
    ∷ refused (0x82 ∷ 0x06 ∷ 0xd9 ∷ []) (refusal_at InvalidConversion Text 2)
    ∷ refused (0x82 ∷ 0x06 ∷ 0xa3 ∷ 0x70 ∷ []) (refusal_at IOError Text 2)
    -- an attribute, which is the integer -128
    ∷ read (0x82 ∷ 0x0a ∷ 0x93 ∷ 0xa1 ∷ 0x6b ∷ 0x04 ∷ 0xd0 ∷ 0x80 ∷ 0x0b ∷ 0x90 ∷ []) (counts 10 0 0 0 0 1 2)
    [] ([] ∷ codes "k" ∷ []) ((codes "k", 4, 2 ^ 64 - 128) ∷ [])
    -- 2 is no multiple of 3
    ∷ refused (0x82 ∷ 0x0a ∷ 0x92 ∷ 0xa1 ∷ 0x6b ∷ 0x04 ∷ 0x0b ∷ 0x90 ∷ []) (refusal_at InvalidFormat Attribute 2)
    -- equal texts take numbers of their own
    ∷ read (0x84 ∷ 0x06 ∷ 0xa1 ∷ 0x61 ∷ 0x05 ∷ 0xa1 ∷ 0x61 ∷ 0x02 ∷ 0x02 ∷ 0x0b ∷ 0x90 ∷ []) (counts 11 0 0 0 0 0 3)
    ((2, codes "a") ∷ (5, codes "a") ∷ (6, codes "a") ∷ []) ([] ∷ codes "a" ∷ codes "a" ∷ []) []
    ∷ []

-- the case that the definition of reading computes of an input
abbrev pub case_of : List ℕ → Case
case_of i = record { input = i; answer = answer_of i; contents = contents_of i }

abbrev pub CasesStand : Type 0
CasesStand = AllByRecursion (λ c. case_of c.input ≡ c) cases
