-- What a payload holds: texts by their bytes, and no places. Assumes nothing.
use Rattle.std.specs.Prelude.{ℕ, Bool, false, List, [], ◌∷◌, ℤ, pos, None, Option}
use Rattle.span.specs.Blank.{no_id}
use Rattle.span.specs.declared.types.SpanKind.{SpanKind}
use Rattle.span.specs.declared.types.SpanKind.TheVariants.{Internal}

abbrev pub Text : Type 0
Text = List ℕ

-- The value of an attribute, by its type number from 1 to 7. A double is told by its 64 bits.
mutual
  pub data Value : Type 0 where
    text_value : Text → Value
    bool_value : Bool → Value
    double_value : ℕ → Value
    int_value : ℤ → Value
    bytes_value : List ℕ → Value
    list_value : Values → Value
    map_value : Entries → Value

  pub data Values : Type 0 where
    no_value : Values
    value : Value → Values → Values

  pub data Entries : Type 0 where
    no_entry : Entries
    entry : Text → Value → Entries → Entries

-- a value with its key, which is empty in a list
abbrev pub Item : Type 0
Item = Text × Value

abbrev pub values : List Item → Values
values [] = no_value
values (i ∷ l) = value i.1 (values l)

abbrev pub entries : List Item → Entries
entries [] = no_entry
entries (i ∷ l) = entry i.0 i.1 (entries l)

pub record Link : Type 0 where
  pub trace_id : List ℕ
  pub span_id : ℕ
  pub attributes : List Item
  pub tracestate : Text
  pub flags : ℕ

pub record Event : Type 0 where
  pub time_unix_nano : ℕ
  pub name : Text
  pub attributes : List Item

pub record Span : Type 0 where
  pub service : Text
  pub name : Text
  pub resource : Text
  pub span_type : Text
  pub span_id : ℕ
  pub parent_id : ℕ
  pub start : ℤ
  pub duration : ℤ
  pub error : Bool
  pub span_kind : SpanKind
  pub env : Text
  pub version : Text
  pub component : Text
  pub attributes : List Item
  pub span_links : List Link
  pub span_events : List Event

pub record Chunk : Type 0 where
  pub trace_id : List ℕ
  pub priority : Option ℤ
  pub origin : Text
  pub sampling_mechanism : Option ℕ
  pub dropped_trace : Bool
  pub attributes : List Item
  pub spans : List Span

pub record Payload : Type 0 where
  pub container_id : Text
  pub language_name : Text
  pub language_version : Text
  pub tracer_version : Text
  pub runtime_id : Text
  pub env : Text
  pub hostname : Text
  pub app_version : Text
  pub attributes : List Item
  pub chunks : List Chunk

-- the records before any field is there
abbrev pub no_link : Link
no_link = record { trace_id = no_id; span_id = 0; attributes = []; tracestate = []; flags = 0 }

abbrev pub no_event : Event
no_event = record { time_unix_nano = 0; name = []; attributes = [] }

abbrev pub no_span : Span
no_span =
    record {
      service = [];
      name = [];
      resource = [];
      span_type = [];
      span_id = 0;
      parent_id = 0;
      start = pos 0;
      duration = pos 0;
      error = false;
      span_kind = Internal;
      env = [];
      version = [];
      component = [];
      attributes = [];
      span_links = [];
      span_events = [];
    }

abbrev pub no_chunk : Chunk
no_chunk = record { trace_id = no_id; priority = None; origin = []; sampling_mechanism = None; dropped_trace = false; attributes = []; spans = [] }

abbrev pub no_payload : Payload
no_payload =
    record {
      container_id = [];
      language_name = [];
      language_version = [];
      tracer_version = [];
      runtime_id = [];
      env = [];
      hostname = [];
      app_version = [];
      attributes = [];
      chunks = [];
    }
